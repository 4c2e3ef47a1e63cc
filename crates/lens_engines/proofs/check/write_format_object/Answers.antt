use Rattle.std.proofs.lemmas.Result.{err_from_is_err_and}
use Rattle.line_io.proofs.WriteLemmas.{Writes-stop}
use Rattle.lens_texts.proofs.WritingLemmas.{Writes-after}
use Rattle.lens_texts.specs.LevelObject.{other_members}
use Rattle.lens_engines.proofs.check.write_format_object.Goals as goal

pub returns-in_err-write_level : goal.returns-in_err-write_level
returns-in_err-write_level g c =
    let p = err_from_is_err_and c.from_residual.result c.from_residual.ensures.1 in
    rw (p.1, p.2) (Writes-stop (other_members c.args.unread) (rw c.format.ensures at c.in_err-write_level.ensures))

pub returns : goal.returns
returns g c = Writes-after (rw c.format.ensures at c.in_ok-write_level.ensures) c.write_other.ensures
