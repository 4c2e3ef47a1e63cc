use Rattle.std.proofs.Common.{ap, ◌+◌, ◌<◌, arith}
use Rattle.map_tree.proofs.SoundLemmas.{few_nodes}
use Rattle.le_rec.specs.Table.{Rows}
use Rattle.le_rec.specs.declared.records.Node.{Node}
use Rattle.released.proofs.LeafLemmas.{finds_from_root, finds_from_next, finds_at_end}
use Rattle.map_tree.proofs.DescentLemmas.{at_start, at_fits, at_smaller, at_next, at_leaf, at_only}
use Rattle.released.proofs.leaf.released_leaf.Goals as goal

pub overflow_add-tests : goal.overflow_add-tests
overflow_add-tests c =
    let fits : c.loop-word.tests + 1 < 4294967296 =
    at_fits _ _ _ _ c.loop-word-test.true c.loop-word.invariant.0 in
    omega arith

pub loop-word-smaller : goal.loop-word-smaller
loop-word-smaller c = at_smaller _ _ _ _ c.loop-word-test.true c.loop-word.invariant.0

pub loop-word-init : goal.loop-word-init
loop-word-init c =
    let place = rw (c.len.ensures, c.nodes-nodes.ensures.is) at c.root_word-word.ensures in (
      at_start _ _ _ c.requires place,
      finds_from_root c.args.level.now.nodes.records c.args.point c.root_word-word.result place,
    )

pub loop-word-preserved : goal.loop-word-preserved
loop-word-preserved c = (
  at_next _ _ _ _ _ c.nodes-nodes.result c.loop-word-test.true c.loop-word.invariant.0
      c.nodes-nodes.ensures.is c.released_next-word.ensures.defined,
  finds_from_next c.nodes-nodes.result.records c.args.level.now.nodes.records c.args.point c.loop-word.word c.released_next-word.result
      (ap (λ (rows : Rows Node). rows.records) c.nodes-nodes.ensures.is)
      c.released_next-word.ensures.released c.loop-word-test.true c.loop-word.invariant.1,
)

pub returns-clause-finds : goal.returns-clause-finds
returns-clause-finds c =
    finds_at_end c.args.level.now.nodes.records c.args.point c.loop-word.word c.ssector_of.result c.loop-word.invariant.1 (omega arith) c.ssector_of.ensures.number

pub returns-clause-leaf : goal.returns-clause-leaf
returns-clause-leaf c =
    at_leaf _ _ _ _ c.ssector_of.result c.ssector_of.ensures.place c.loop-word.invariant.0

pub returns-clause-only : goal.returns-clause-only
returns-clause-only c =
    at_only _ _ _ _ c.ssector_of.result c.ssector_of.ensures.place c.loop-word.invariant.0

pub root_word-word-requires : goal.root_word-word-requires
root_word-word-requires c =
    rw (
      c.len.ensures,
      c.nodes-nodes.ensures.is,
    ) (few_nodes c.args.level.now c.requires)
