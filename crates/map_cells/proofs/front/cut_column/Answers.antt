use Rattle.std.proofs.Common.{sym, arith}
use Rattle.map_cells.proofs.FrontLemmas.{cut_nothing, cut_whole}
use Rattle.map_cells.proofs.front.cut_column.Goals as goal

pub returns-then-is_behind : goal.returns-then-is_behind
returns-then-is_behind c =
    let span = c.args.span in
    let one = c.requires.one in
    cut_nothing c.args.ends.now c.args.row span span.first (omega (arith, one)) one
    (sym (rw c.point.ensures at c.if-is_behind.ensures)) (sym (rw c.point.ensures at c.if-is_behind.ensures))

pub returns-else-is_behind : goal.returns-else-is_behind
returns-else-is_behind c =
    let span = c.args.span in
    let one = c.requires.one in
    cut_whole c.args.ends.now c.args.row span span.first (omega (arith, one)) one
    (sym (rw c.point.ensures at c.if-is_behind.ensures)) (sym (rw c.point.ensures at c.if-is_behind.ensures))
