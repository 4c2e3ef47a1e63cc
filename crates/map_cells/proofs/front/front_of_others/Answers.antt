use Rattle.std.proofs.Common.{arith}
use Rattle.map_cells.proofs.FrontLemmas.{front_all, front_done, front_more, front_none}
use Rattle.map_cells.proofs.front.front_of_others.Goals as goal

pub loop-i-init : goal.loop-i-init
loop-i-init c = front_none c.args.level.now c.args.segs c.args.row c.args.span c.requires.ordered

pub loop-i-preserved : goal.loop-i-preserved
loop-i-preserved c =
    let from = c.loop-i.auto.i in
    front_more c.args.level.now c.args.segs c.args.row c.args.span c.loop-i.left c.front_of_seg-left.result c.loop-i.i
    (from, c.loop-i-test.true) c.loop-i.invariant c.front_of_seg-left.ensures

pub returns : goal.returns
returns c =
    front_all c.args.level.now c.args.segs c.args.row c.args.span c.loop-i.left c.loop-i.i (omega (arith, c.loop-i-test.false)) c.loop-i.invariant

pub returns-then-left : goal.returns-then-left
returns-then-left c =
    front_done c.args.level.now c.args.segs c.args.row c.args.span c.loop-i.left c.loop-i.i (omega (arith, c.if-left.true)) c.loop-i.invariant
