use Rattle.std.proofs.Common.{◌-◌}
use Rattle.map_tree.specs.Child.{node_count}
use Rattle.map_tree.proofs.DescentLemmas.{IsAt}
use Rattle.released.proofs.LeafLemmas.{FindsFrom}
use Rattle.released.proofs.leaf.released_leaf.Given as goal

abbrev pub invariant-loop-word : goal.invariant-loop-word
invariant-loop-word l =
    IsAt l.level l.point l.word l.tests × FindsFrom l.level.nodes.records l.point l.word

abbrev pub decreases-loop-word : goal.decreases-loop-word
decreases-loop-word l = node_count l.level - l.tests
