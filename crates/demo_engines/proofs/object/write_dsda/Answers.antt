use Rattle.std.specs.Prelude.{codes}
use Rattle.lens_texts.specs.LevelObject.{number_member}
use Rattle.std.proofs.lemmas.Result.{err_from_is_err_and}
use Rattle.line_io.proofs.WriteLemmas.{Writes-stop}
use Rattle.lens_texts.proofs.WritingLemmas.{Writes-after}
use Rattle.demo_engines.proofs.object.write_dsda.Goals as goal

pub returns-in_err-write_text : goal.returns-in_err-write_text
returns-in_err-write_text g c =
    let p = err_from_is_err_and c.from_residual.result c.from_residual.ensures.1 in
    rw (p.1, p.2) (Writes-stop (number_member (codes "wrapper_version") c.args.version) c.in_err-write_text.ensures)

pub returns : goal.returns
returns g c = Writes-after c.in_ok-write_text.ensures (rw c.from.ensures at c.write_number.ensures)
