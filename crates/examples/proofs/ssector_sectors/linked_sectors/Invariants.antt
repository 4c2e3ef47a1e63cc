use Rattle.examples.proofs.SsectorLemmas.{SectorsSoFar}
use Rattle.examples.proofs.ssector_sectors.linked_sectors.Given as goal

abbrev pub invariant-loop-number : goal.invariant-loop-number
invariant-loop-number g l = SectorsSoFar l.level l.number l.sectors.items
