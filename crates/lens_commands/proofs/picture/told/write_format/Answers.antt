use Rattle.std.proofs.lemmas.Result.{err_from_is_err_and}
use Rattle.line_io.proofs.WriteLemmas.{Writes-stop}
use Rattle.lens_texts.proofs.WritingLemmas.{Writes-after}
use Rattle.lens_texts.specs.FormatLine.{format_text}
use Rattle.lens_commands.proofs.picture.told.write_format.Goals as goal

pub returns-in_err-write_head : goal.returns-in_err-write_head
returns-in_err-write_head g c =
    let p = err_from_is_err_and c.from_residual.result c.from_residual.ensures.1 in
    rw (p.1, p.2) (Writes-stop (format_text c.args.unread) c.in_err-write_head.ensures)

pub returns : goal.returns
returns g c = Writes-after c.in_ok-write_head.ensures c.write_format_alone.ensures
