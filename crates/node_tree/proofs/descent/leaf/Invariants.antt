use Rattle.std.proofs.Common.{◌-◌}
use Rattle.node_tree.specs.Shape.{node_count}
use Rattle.node_tree.proofs.DescentLemmas.{IsAt}
use Rattle.node_tree.proofs.descent.leaf.Given as goal

abbrev pub invariant-loop-place : goal.invariant-loop-place
invariant-loop-place g l = IsAt (g.T.Forked.shape l.tree) l.point l.place l.tests

abbrev pub decreases-loop-place : goal.decreases-loop-place
decreases-loop-place g l = node_count (g.T.Forked.shape l.tree) - l.tests
