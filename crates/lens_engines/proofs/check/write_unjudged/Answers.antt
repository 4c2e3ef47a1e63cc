use Rattle.std.proofs.lemmas.Result.{err_from_is_err_and}
use Rattle.line_io.proofs.WriteLemmas.{Writes-stop}
use Rattle.lens_texts.specs.Head.{head_of}
use Rattle.lens_texts.specs.Order.{order_part}
use Rattle.lens_texts.proofs.WritingLemmas.{Writes-after}
use Rattle.lens_engines.proofs.check.write_unjudged.Goals as goal

pub returns-in_err-write_format_told : goal.returns-in_err-write_format_told
returns-in_err-write_format_told g c =
    let p = err_from_is_err_and c.from_residual.result c.from_residual.ensures.1 in
    rw (p.1, p.2) (Writes-stop (order_part (head_of c.args.heading.now) c.args.unread c.args.order) c.in_err-write_format_told.ensures)

pub returns : goal.returns
returns g c = Writes-after c.in_ok-write_format_told.ensures c.write_order.ensures
