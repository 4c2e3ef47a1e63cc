use Rattle.examples.proofs.ThingLemmas.{StandSoFar-more}
use Rattle.examples.proofs.thing_sectors.stand_in.Goals as goal

pub loop-number-preserved : goal.loop-number-preserved
loop-number-preserved g c =
    rw c.in_ok-push.ensures.items (StandSoFar-more c.args.tree.now c.args.things.now.records c.loop-number.number c.loop-number.sectors.items
    c.at.result c.stands_in.result c.loop-number.invariant c.at.ensures c.stands_in.ensures)
