use Rattle.examples.proofs.ThingLemmas.{StandSoFar}
use Rattle.examples.proofs.thing_sectors.stand_in.Given as goal

abbrev pub invariant-loop-number : goal.invariant-loop-number
invariant-loop-number g l = StandSoFar l.tree l.things.records l.number l.sectors.items
