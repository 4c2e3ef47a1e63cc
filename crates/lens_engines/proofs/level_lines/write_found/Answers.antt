use Rattle.std.proofs.lemmas.Result.{err_from_is_err_and}
use Rattle.line_io.proofs.WriteLemmas.{Writes-stop, Writes-then}
use Rattle.lens_engines.specs.WarnedText.{warned_text}
use Rattle.lens_engines.proofs.level_lines.write_found.Goals as goal

pub returns-in_err-write_codes-clause-text : goal.returns-in_err-write_codes-clause-text
returns-in_err-write_codes-clause-text g c =
    let p = err_from_is_err_and c.from_residual.result c.from_residual.ensures.1 in
    rw (p.1, p.2) (λ told are counted.
    Writes-stop (warned_text (g.F.WriteRemarks.text c.args.form.now c.args.judged.now.level) (g.F.WriteRemarks.left c.args.form.now) c.args.judged.now.warned)
    (c.in_err-write_codes.ensures.text told are counted))

pub returns-clause-text : goal.returns-clause-text
returns-clause-text g c =
    let warned = rw (c.level.ensures, c.warned.ensures) at c.write_warned.ensures in
    λ told are counted. Writes-then _ _ _ _ _ (c.in_ok-write_codes.ensures.text told are counted).takes.whole warned
