use Rattle.std.proofs.Common.{arith}
use Rattle.node_tree.proofs.DescentLemmas.{at_deep, at_leaf, at_next, at_only, at_short, at_smaller, at_start, at_tests, at_within}
use Rattle.node_tree.proofs.descent.leaf.Goals as goal

pub loop-place-init : goal.loop-place-init
loop-place-init g c =
    rw (c.saturating_sub-place.ensures, c.node_count-nodes.ensures.is)
    (at_start _ c.args.point c.requires)

pub loop-place-preserved : goal.loop-place-preserved
loop-place-preserved g c =
    at_next _ _ _ _ _ (rw c.node_count-nodes.ensures.is at c.loop-place-test.true)
    c.loop-place.invariant c.place_below-place.ensures

pub loop-place-smaller : goal.loop-place-smaller
loop-place-smaller g c =
    at_smaller _ _ _ _ (rw c.node_count-nodes.ensures.is at c.loop-place-test.true)
    c.loop-place.invariant

pub overflow_add-tests : goal.overflow_add-tests
overflow_add-tests g c =
    let deep =
    at_deep _ _ _ _ (rw c.node_count-nodes.ensures.is at c.loop-place-test.true)
    c.loop-place.invariant in
    omega (arith, deep, c.node_count-nodes.ensures.is, c.node_count-nodes.ensures.few)

pub returns-clause-leaf : goal.returns-clause-leaf
returns-clause-leaf g c =
    rw c.node_count-nodes.ensures.is
    (at_leaf _ _ _ _ (rw c.node_count-nodes.ensures.is at c.loop-place-test.false)
    c.loop-place.invariant)

pub returns-clause-only : goal.returns-clause-only
returns-clause-only g c =
    rw c.node_count-nodes.ensures.is
    (at_only _ _ _ _ (rw c.node_count-nodes.ensures.is at c.loop-place-test.false)
    c.loop-place.invariant)

pub returns-clause-tests : goal.returns-clause-tests
returns-clause-tests g c =
    rw c.node_count-nodes.ensures.is
    (at_tests _ _ _ _ (rw c.node_count-nodes.ensures.is at c.loop-place-test.false)
    c.loop-place.invariant)

pub returns-clause-few : goal.returns-clause-few
returns-clause-few g c = at_short _ _ _ _ c.loop-place.invariant

pub returns-clause-within : goal.returns-clause-within
returns-clause-within g c =
    rw c.node_count-nodes.ensures.is
    (at_within _ _ _ _ (rw c.node_count-nodes.ensures.is at c.loop-place-test.false)
    c.loop-place.invariant)
