use Rattle.std.proofs.lemmas.Result.{err_from_is_err_and}
use Rattle.line_io.proofs.WriteLemmas.{Writes-stop}
use Rattle.lens_engines.specs.UnlookedText.{cause_text}
use Rattle.lens_texts.proofs.WritingLemmas.{Writes-after}
use Rattle.lens_engines.proofs.unlooked_text.write_line.Goals as goal

pub returns-in_err-write_heading : goal.returns-in_err-write_heading
returns-in_err-write_heading g c =
    let p = err_from_is_err_and c.from_residual.result c.from_residual.ensures.1 in
    rw (p.1, p.2) (Writes-stop (cause_text c.args.named.now c.args.causes.now) c.in_err-write_heading.ensures)

pub returns : goal.returns
returns g c = Writes-after c.in_ok-write_heading.ensures c.write_cause.ensures
