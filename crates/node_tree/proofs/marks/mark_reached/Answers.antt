use Rattle.std.proofs.Common.{sym, ◌∙◌}
use Rattle.map_tree.proofs.MarkLemmas.{visit_smaller}
use Rattle.node_tree.proofs.MarkLemmas.{visit_start, visit, visit_end}
use Rattle.node_tree.proofs.marks.mark_reached.Goals as goal

pub loop-k-init : goal.loop-k-init
loop-k-init g c =
    visit_start (g.T.Forked.shape c.args.places.now) c.args.marks.now c.mark.new.marks c.mark.new.waits.items
    c.requires.long c.requires.off
    (rw (c.root.ensures.is, c.requires.none) at c.in_ok-mark.ensures)

pub loop-k-preserved : goal.loop-k-preserved
loop-k-preserved g c =
    visit (g.T.Forked.shape c.args.places.now) c.in-Some.k c.loop-k.marks c.mark_children.new.marks
    c.loop-k.waits.items c.pop.new.self.items c.mark_children.new.waits.items
    c.in-Some.ensures.items c.loop-k.invariant
    (rw (c.children.ensures.front, c.children.ensures.back) at c.in_ok-mark_children.ensures)

pub loop-k-smaller : goal.loop-k-smaller
loop-k-smaller g c =
    visit_smaller c.in-Some.k c.loop-k.marks c.mark_children.new.marks c.loop-k.waits.items
    c.pop.new.self.items c.mark_children.new.waits.items
    _ _ c.in-Some.ensures.items c.in_ok-mark_children.ensures

pub returns : goal.returns
returns g c =
    visit_end (g.T.Forked.shape c.args.places.now) c.loop-k.marks c.loop-k.waits.items
    (sym c.loop-k.waits.ok.0 ∙ c.in_default.ensures.cases.0) c.loop-k.invariant
