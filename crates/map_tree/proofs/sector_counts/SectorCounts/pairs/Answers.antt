use Rattle.std.proofs.lemmas.List.Sorted.{IsNonDecreasingBy-from_sort}
use Rattle.std.proofs.lemmas.Result.{IfOk-weaker}
use Rattle.map_tree.proofs.TouchedLemmas.{Touches-sorted, all_touched_within, pairs_from_sorted}
use Rattle.map_tree.proofs.sector_counts.SectorCounts.pairs.Goals as goal

pub invariant_of-self : goal.invariant_of-self
invariant_of-self g c =
    Touches-sorted c.self.inside.numbers.items c.self.inside.touched.items c.sort_unstable.new.self.items c.sort_unstable.ensures.permutation c.self.invariant

pub numbered-requires : goal.numbered-requires
numbered-requires g c =
    let sorted = Touches-sorted c.self.inside.numbers.items c.self.inside.touched.items c.sort_unstable.new.self.items c.sort_unstable.ensures.permutation c.self.invariant in
    rw (c.deref.ensures.value, c.deref-2.ensures.value) (all_touched_within c.self.inside.numbers.items c.sort_unstable.new.self.items sorted)

pub returns-clause-pairs : goal.returns-clause-pairs
returns-clause-pairs g c =
    let sorted = Touches-sorted c.self.inside.numbers.items c.self.inside.touched.items c.sort_unstable.new.self.items c.sort_unstable.ensures.permutation c.self.invariant in
    let rising = IsNonDecreasingBy-from_sort (λ s. s) c.sort_unstable.new.self.items c.sort_unstable.ensures.sorted in
    let pairs = pairs_from_sorted c.self.inside.numbers.items c.sort_unstable.new.self.items rising sorted in
    rw (← c.self.view_is)
    (IfOk-weaker c.numbered.result _ _ (λ v is. rw is pairs) (rw (c.deref.ensures.value, c.deref-2.ensures.value) at c.numbered.ensures))
