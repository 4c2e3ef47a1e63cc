use Rattle.std.proofs.lemmas.Result.{err_from_is_err_and}
use Rattle.line_io.proofs.WriteLemmas.{Writes-stop}
use Rattle.lens_texts.proofs.WritingLemmas.{Writes-after}
use Rattle.std.proofs.Common.{◌≡◌, [], ◌++◌, rules}
use Rattle.lens_texts.specs.Remark.{remark_code, remark_index, remark_message, remark_place}
use Rattle.lens_texts.specs.RemarkObject.{subject_members, told_members}
use Rattle.lens_texts.proofs.remark_object.write_remark_object.Goals as goal

pub returns-in_err-write_front : goal.returns-in_err-write_front
returns-in_err-write_front g c =
    let p = err_from_is_err_and c.from_residual.result c.from_residual.ensures.1 in
    let level = c.args.level.now in
    let remark = c.args.remark in
    rw (p.1, p.2)
    (Writes-stop (subject_members level (remark_code remark) (remark_index remark) ++ told_members (remark_message level remark []) (remark_place level remark))
    c.in_err-write_front.ensures)

pub returns : goal.returns
returns g c =
    let level = c.args.level.now in
    let remark = c.args.remark in
    let members : c.as_bytes.result.now ≡ subject_members level (remark_code remark) (remark_index remark) = search rules in
    let text : c.as_bytes-2.result.now ≡ remark_message level remark [] = search rules in
    Writes-after c.in_ok-write_front.ensures (rw (members, text, c.place-place.ensures) at c.write_told.ensures)
