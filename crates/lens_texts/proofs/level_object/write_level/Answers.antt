use Rattle.std.proofs.Common.{◌++◌}
use Rattle.lens_texts.specs.LevelObject.{format_member, label_members}
use Rattle.std.proofs.lemmas.Result.{err_from_is_err_and}
use Rattle.line_io.proofs.WriteLemmas.{Writes-stop}
use Rattle.lens_texts.proofs.WritingLemmas.{Writes-after, Writes-later}
use Rattle.lens_texts.proofs.level_object.write_level.Goals as goal

pub returns-in_err-write_file : goal.returns-in_err-write_file
returns-in_err-write_file g c =
    let p = err_from_is_err_and c.from_residual.result c.from_residual.ensures.1 in
    rw (p.1, p.2) (Writes-stop (label_members c.args.name.now c.args.g ++ format_member c.args.format) c.in_err-write_file.ensures)

pub returns-in_err-write_label : goal.returns-in_err-write_label
returns-in_err-write_label g c =
    let p = err_from_is_err_and c.from_residual-in_err-write_label.result c.from_residual-in_err-write_label.ensures.1 in
    rw (p.1, p.2) (Writes-later c.in_ok-write_file.ensures (Writes-stop {U = Unit {0}} (format_member c.args.format) c.in_err-write_label.ensures))

pub returns : goal.returns
returns g c = Writes-after c.in_ok-write_file.ensures (Writes-after c.in_ok-write_label.ensures c.write_format.ensures)
