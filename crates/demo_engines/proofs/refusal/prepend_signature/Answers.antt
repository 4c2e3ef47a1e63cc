use Rattle.std.specs.Prelude.{codes}
use Rattle.std.specs.Fmt.{decimal}
use Rattle.std.proofs.Common.{List, ℕ, ◌++◌, sym, ap, ◌∙◌}
use Rattle.std.proofs.lemmas.List.{append_assoc}
use Rattle.later_demos.specs.FaultText.{signature_digits}
use Rattle.later_demos.specs.Layout.{name_of}
use Rattle.demo_engines.proofs.refusal.prepend_signature.Goals as goal

pub returns-clause-text : goal.returns-clause-text
returns-clause-text c =
    let old = c.args.line.now in
    let version = decimal c.args.version in
    let name = name_of c.args.engine in
    let end = codes "): its signature isn't " ++ signature_digits c.args.engine in
    let digits = rw (c.as_bytes.ensures.value, c.signature_digits.ensures.digits) at c.prepend_bytes.ensures.text in
    let named = rw (c.as_bytes-2.ensures.value, c.name.ensures.name) at c.prepend_bytes-3.ensures.text in
    c.prepend_bytes-5.ensures.text
    ∙ ap (λ (t : List ℕ). codes "version " ++ t) (c.prepend_small.ensures.text
    ∙ ap (λ (t : List ℕ). version ++ t) (c.prepend_bytes-4.ensures.text
    ∙ ap (λ (t : List ℕ). codes " (" ++ t) (named
    ∙ ap (λ (t : List ℕ). name ++ t) (c.prepend_bytes-2.ensures.text ∙ ap (λ (t : List ℕ). codes "): its signature isn't " ++ t) digits)
    ∙ sym (append_assoc name end old)))
    ∙ sym (append_assoc version (codes " (" ++ (name ++ end)) old))
