use Rattle.std.specs.Prelude.{codes}
use Rattle.std.specs.Fmt.{decimal}
use Rattle.std.proofs.Common.{List, ℕ, ◌++◌, sym, ap, ◌∙◌}
use Rattle.std.proofs.lemmas.List.{append_assoc}
use Rattle.later_demos.specs.FaultText.{early_text}
use Rattle.demo_engines.proofs.refusal.prepend_version.Goals as goal

pub returns-clause-text : goal.returns-clause-text
returns-clause-text c =
    let old = c.args.line.now in
    let version = decimal c.args.version in
    let early = early_text c.args.version in
    let end = codes ": not read" in
    c.prepend_bytes-2.ensures.text
    ∙ ap (λ (t : List ℕ). codes "version " ++ t) (c.prepend_small.ensures.text
    ∙ ap (λ (t : List ℕ). version ++ t) (c.prepend_early.ensures.text ∙ ap (λ (t : List ℕ). early ++ t) c.prepend_bytes.ensures.text ∙ sym (append_assoc early end old))
    ∙ sym (append_assoc version (early ++ end) old))
