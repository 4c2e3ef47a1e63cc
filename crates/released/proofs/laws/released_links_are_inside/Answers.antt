use Rattle.released.proofs.LinkLemmas.{linedefs_inside, segs_inside, backs_inside}
use Rattle.released.proofs.laws.released_links_are_inside.Goals as goal

pub returns-clause-linedefs : goal.returns-clause-linedefs
returns-clause-linedefs c = linedefs_inside

pub returns-clause-segs : goal.returns-clause-segs
returns-clause-segs c = segs_inside

pub returns-clause-backs : goal.returns-clause-backs
returns-clause-backs c = backs_inside
