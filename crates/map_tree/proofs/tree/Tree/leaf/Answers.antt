use Rattle.std.proofs.Common.{ap, ◌∙◌, ◌+◌, ◌<◌, arith}
use Rattle.map_level.specs.Level.{Level}
use Rattle.map_tree.proofs.SoundLemmas.{few_nodes}
use Rattle.map_tree.proofs.DescentLemmas.{at_fits, at_smaller, at_next, at_leaf, at_only, at_tests, at_short, at_within}
use Rattle.map_tree.proofs.tree.Tree.leaf.Goals as goal

pub overflow_add-tests : goal.overflow_add-tests
overflow_add-tests c =
    let fits : c.loop-word.tests + 1 < 4294967296 =
    at_fits _ _ _ _ c.loop-word-test.true c.loop-word.invariant in
    omega arith

pub loop-word-smaller : goal.loop-word-smaller
loop-word-smaller c = at_smaller _ _ _ _ c.loop-word-test.true c.loop-word.invariant

pub loop-word-preserved : goal.loop-word-preserved
loop-word-preserved c =
    at_next _ _ _ _ _ c.nodes-nodes.result c.loop-word-test.true c.loop-word.invariant
    (c.nodes-nodes.ensures.is ∙ ap (λ (level : Level). level.nodes) c.self.view_is)
    c.next_word-word.ensures

pub returns-clause-leaf : goal.returns-clause-leaf
returns-clause-leaf c =
    at_leaf _ _ _ _ c.ssector_of.result c.ssector_of.ensures c.loop-word.invariant

pub returns-clause-only : goal.returns-clause-only
returns-clause-only c =
    at_only _ _ _ _ c.ssector_of.result c.ssector_of.ensures c.loop-word.invariant

pub returns-clause-tests : goal.returns-clause-tests
returns-clause-tests c =
    at_tests _ _ _ _ c.ssector_of.result c.ssector_of.ensures c.loop-word.invariant

pub returns-clause-within : goal.returns-clause-within
returns-clause-within c =
    at_within _ _ _ _ c.ssector_of.result c.ssector_of.ensures c.loop-word.invariant

pub returns-clause-few : goal.returns-clause-few
returns-clause-few c = at_short _ _ _ _ c.loop-word.invariant

pub root_word-word-requires : goal.root_word-word-requires
root_word-word-requires c =
    rw (
      c.len.ensures,
      c.nodes-nodes.ensures.is,
    ) (few_nodes c.self.inside.level.now c.self.invariant)
