use Rattle.std.proofs.Common.{◌≡◌, rules}
use Rattle.std.specs.Prelude.{codes}
use Rattle.std.proofs.lemmas.Result.{err_from_is_err_and}
use Rattle.line_io.proofs.WriteLemmas.{Writes-stop}
use Rattle.lens_texts.proofs.WritingLemmas.{Writes-after}
use Rattle.lens_texts.specs.Unbuilt.{empty_member, unbuilt_message}
use Rattle.lens_texts.proofs.unbuilt.write_unbuilt_object.Goals as goal

pub returns-in_err-write_front : goal.returns-in_err-write_front
returns-in_err-write_front g c =
    let p = err_from_is_err_and c.from_residual.result c.from_residual.ensures.1 in
    let level = c.args.level.now in
    rw (p.1, p.2) (Writes-stop (empty_member level (unbuilt_message level (codes "\"}\n"))) c.in_err-write_front.ensures)

pub returns : goal.returns
returns g c =
    let level = c.args.level.now in
    let line : c.as_bytes.result.now ≡ empty_member level (unbuilt_message level (codes "\"}\n")) = search rules in
    Writes-after c.in_ok-write_front.ensures (rw line at c.emit.ensures)
