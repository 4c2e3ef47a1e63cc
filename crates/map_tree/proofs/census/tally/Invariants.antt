use Rattle.std.proofs.Common.{◌≡◌, ◌∷◌, length, reverse}
use Rattle.map_tree.proofs.Sizes.{size_of}
use Rattle.map_tree.proofs.HeldLemmas.{Held}
use Rattle.map_tree.proofs.PieceLemmas.{measure}
use Rattle.map_tree.proofs.census.tally.Given as goal

abbrev pub invariant-loop-next : goal.invariant-loop-next
invariant-loop-next g l = record {
  held : Held l.level (size_of l.level) l.fn.rect (l.hand ∷ reverse l.pending.items) l.counts l.tests l.most;
  long : length l.counts ≡ length l.fn.counts;
}

abbrev pub decreases-loop-next : goal.decreases-loop-next
decreases-loop-next g l = measure (size_of l.level) (l.hand ∷ reverse l.pending.items)
