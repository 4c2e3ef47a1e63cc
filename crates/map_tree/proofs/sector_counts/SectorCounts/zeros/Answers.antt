use Rattle.map_tree.proofs.TouchedLemmas.{get_or-alike, Touches-none}
use Rattle.map_tree.proofs.sector_counts.SectorCounts.zeros.Goals as goal

pub invariant_of-result : goal.invariant_of-result
invariant_of-result g c = rw (c.in_ok-vec.ensures.items_if_clones_equal (λ y same. same), c.new.ensures.items) (Touches-none c.args.sectors)

pub returns-clause-zeros : goal.returns-clause-zeros
returns-clause-zeros g c = λ s. rw (c.in_ok-vec.ensures.items_if_clones_equal (λ y same. same)) (get_or-alike c.args.sectors s 0)
