use Rattle.std.proofs.Common.{rules}
use Rattle.map_level.proofs.BoundLemmas.{bounded}
use Rattle.node_tree.specs.TreeBounds.{SsectorFound}
use Rattle.node_tree.proofs.PlaceLemmas.{ssector_there}
use Rattle.node_tree.proofs.bounds.ssector_bound.Goals as goal

pub returns : goal.returns
returns g c =
    bounded {P = SsectorFound (g.T.Forked.shape c.args.places.now)}
    (λ n found. rw c.ssectors-count.ensures.is (ssector_there (g.T.Forked.shape c.args.places.now) n found))
    c.bound_where.ensures (λ n told found. search rules)
