use Rattle.std.proofs.Common.{◌≡◌, ◌+◌, ◌≤◌, ◌∷◌, length, reverse}
use Rattle.map_tree.specs.Child.{node_count}
use Rattle.map_tree.proofs.AreaLemmas.{HeldAreas}
use Rattle.map_tree.proofs.PieceLemmas.{measure}
use Rattle.map_tree.proofs.Sizes.{size_of}
use Rattle.map_tree.proofs.areas.add_points.Given as goal

-- with the piece in hand there are never more than so many
abbrev pub invariant-loop-next : goal.invariant-loop-next
invariant-loop-next g l = record {
  held : HeldAreas l.level (size_of l.level) l.fn.rect (l.hand ∷ reverse l.pending.items) l.counts;
  few : length (l.hand ∷ reverse l.pending.items) ≤ node_count l.level + 16;
  long : length l.counts ≡ length l.fn.counts;
}

abbrev pub decreases-loop-next : goal.decreases-loop-next
decreases-loop-next g l = measure (size_of l.level) (l.hand ∷ reverse l.pending.items)
