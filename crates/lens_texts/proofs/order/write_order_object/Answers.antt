use Rattle.std.proofs.Common.{◌≡◌, rules}
use Rattle.std.proofs.lemmas.Result.{err_from_is_err_and}
use Rattle.line_io.proofs.WriteLemmas.{Writes-stop}
use Rattle.lens_texts.proofs.WritingLemmas.{Writes-after}
use Rattle.lens_texts.specs.Order.{order_member}
use Rattle.lens_texts.proofs.order.write_order_object.Goals as goal

pub returns-in_err-write_front : goal.returns-in_err-write_front
returns-in_err-write_front g c =
    let p = err_from_is_err_and c.from_residual.result c.from_residual.ensures.1 in
    rw (p.1, p.2) (Writes-stop (order_member c.args.j c.args.k) c.in_err-write_front.ensures)

pub returns : goal.returns
returns g c =
    let line : c.as_bytes.result.now ≡ order_member c.args.j c.args.k = search rules in
    Writes-after c.in_ok-write_front.ensures (rw line at c.emit.ensures)
