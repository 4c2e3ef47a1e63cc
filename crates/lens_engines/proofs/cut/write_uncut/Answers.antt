use Rattle.std.proofs.Common.{◌≡◌, rules}
use Rattle.std.specs.Prelude.{codes}
use Rattle.std.proofs.lemmas.Result.{err_from_is_err_and}
use Rattle.line_io.proofs.WriteLemmas.{Writes-stop}
use Rattle.lens_engines.specs.Cut.{uncut_text}
use Rattle.lens_texts.specs.Label.{label_text}
use Rattle.lens_texts.proofs.WritingLemmas.{Writes-after}
use Rattle.lens_engines.proofs.cut.write_uncut.Goals as goal

pub returns-in_err-emit : goal.returns-in_err-emit
returns-in_err-emit g c =
    let p = err_from_is_err_and c.from_residual.result c.from_residual.ensures.1 in
    let line : c.as_bytes.result.now ≡ label_text c.args.label.now (codes ": ") = search rules in
    rw (p.1, p.2, ← line) (Writes-stop (uncut_text c.args.why) c.in_err-emit.ensures)

pub returns : goal.returns
returns g c =
    let line : c.as_bytes.result.now ≡ label_text c.args.label.now (codes ": ") = search rules in
    Writes-after (rw line at c.in_ok-emit.ensures) c.write_reason.ensures
