use Rattle.std.proofs.Common.{arith}
use Rattle.node_tree.proofs.PlaceLemmas.{node_past}
use Rattle.node_tree.proofs.faults.node_named_twice.Goals as goal

pub returns-then-n-nodes : goal.returns-then-n-nodes
returns-then-n-nodes g c =
    node_past (g.T.Forked.shape c.args.places.now) c.args.n (omega (arith, c.nodes.ensures.is, c.if-n-nodes.true))
