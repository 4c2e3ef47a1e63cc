use Rattle.std.proofs.Common.{◌≡◌, arith}
use Rattle.node_tree.specs.Shape.{node_count}
use Rattle.node_tree.proofs.WordLemmas.{counts_start, counts_node, counts_end}
use Rattle.node_tree.proofs.words.count_words.Goals as goal

pub loop-n-init : goal.loop-n-init
loop-n-init g c = counts_start (g.T.Forked.shape c.args.places.now) c.args.counts.now c.requires.long c.requires.zeros

pub loop-n-preserved : goal.loop-n-preserved
loop-n-preserved g c =
    counts_node (g.T.Forked.shape c.args.places.now) c.loop-n.n c.loop-n.counts c.count_children.new.counts
    c.loop-n.invariant
    (rw (c.children.ensures.front, c.children.ensures.back) at c.count_children.ensures)

pub returns : goal.returns
returns g c =
    let all : c.loop-n.n ≡ node_count (g.T.Forked.shape c.args.places.now) =
    omega (arith, c.loop-n-test.false, c.loop-n.auto.n-end, c.nodes-n-end.ensures.is) in
    counts_end (g.T.Forked.shape c.args.places.now) c.loop-n.counts (rw all at c.loop-n.invariant)
