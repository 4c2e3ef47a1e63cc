use Rattle.std.proofs.lemmas.Result.{err_from_is_err_and}
use Rattle.line_io.proofs.WriteLemmas.{Writes-stop}
use Rattle.lens_texts.proofs.WritingLemmas.{Writes-after}
use Rattle.lens_texts.specs.RemarkObject.{told_members}
use Rattle.lens_texts.proofs.remark_object.write_told.Goals as goal

pub returns-in_err-emit : goal.returns-in_err-emit
returns-in_err-emit g c =
    let p = err_from_is_err_and c.from_residual.result c.from_residual.ensures.1 in
    rw (p.1, p.2) (Writes-stop (told_members c.args.text.now c.args.place) c.in_err-emit.ensures)

pub returns : goal.returns
returns g c = Writes-after c.in_ok-emit.ensures c.write_message.ensures
