use Rattle.std.proofs.lemmas.Result.{err_from_is_err_and}
use Rattle.line_io.proofs.WriteLemmas.{Writes-stop}
use Rattle.lens_texts.proofs.WritingLemmas.{Writes-after}
use Rattle.lens_texts.specs.LevelObject.{label_members}
use Rattle.lens_texts.proofs.remark_object.write_front.Goals as goal

pub returns-in_err-write_file : goal.returns-in_err-write_file
returns-in_err-write_file g c =
    let p = err_from_is_err_and c.from_residual.result c.from_residual.ensures.1 in
    rw (p.1, p.2) (Writes-stop (label_members c.args.heading.now.label.name c.args.heading.now.label.entry) c.in_err-write_file.ensures)

pub returns : goal.returns
returns g c = Writes-after c.in_ok-write_file.ensures c.write_label.ensures
