use Rattle.examples.proofs.SsectorLemmas.{SectorsSoFar-more}
use Rattle.examples.proofs.ssector_sectors.linked_sectors.Goals as goal

pub loop-number-preserved : goal.loop-number-preserved
loop-number-preserved g c =
    rw c.in_ok-push.ensures.items (SectorsSoFar-more c.args.level.now c.loop-number.number c.loop-number.sectors.items c.ssector_sector.result
    c.loop-number.invariant c.ssector_sector.ensures)
