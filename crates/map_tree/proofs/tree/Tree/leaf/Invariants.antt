use Rattle.std.proofs.Common.{◌-◌}
use Rattle.map_tree.specs.Child.{node_count}
use Rattle.map_tree.proofs.DescentLemmas.{IsAt}
use Rattle.map_tree.proofs.tree.Tree.leaf.Given as goal

abbrev pub invariant-loop-word : goal.invariant-loop-word
invariant-loop-word l = IsAt l.self l.point l.word l.tests

abbrev pub decreases-loop-word : goal.decreases-loop-word
decreases-loop-word l = node_count l.self - l.tests
