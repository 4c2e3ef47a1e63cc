use Rattle.std.proofs.Common.{rules}
use Rattle.map_level.proofs.BoundLemmas.{bounded}
use Rattle.node_tree.specs.TreeBounds.{NodeFound}
use Rattle.node_tree.proofs.PlaceLemmas.{node_there}
use Rattle.node_tree.proofs.bounds.node_bound.Goals as goal

pub returns : goal.returns
returns g c =
    bounded {P = NodeFound (g.T.Forked.shape c.args.places.now)}
    (λ n found. rw c.nodes-count.ensures.is (node_there (g.T.Forked.shape c.args.places.now) n found))
    c.bound_where.ensures (λ n told found. search rules)
