use Rattle.std.proofs.Common.{rules}
use Rattle.map_level.proofs.BoundLemmas.{bounded}
use Rattle.map_tree.specs.TreeBounds.{SsectorFound}
use Rattle.map_tree.proofs.PlaceLemmas.{ssector_there}
use Rattle.map_tree.proofs.tree_bounds.ssector_bound.Goals as goal

pub returns : goal.returns
returns c =
    bounded {P = SsectorFound c.args.places.now}
    (λ n found. rw c.ssectors-count.ensures.is (ssector_there c.args.places.now n found))
    c.bound_where.ensures (λ n told found. search rules)
