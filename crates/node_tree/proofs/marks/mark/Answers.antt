use Rattle.map_tree.proofs.MarkLemmas.{marking_new}
use Rattle.node_tree.proofs.marks.mark.Goals as goal

pub returns : goal.returns
returns g c =
    rw c.in-Some.is
    (marking_new c.args.marks.now c.in-Some.k c.args.waits.now.items c.push.new.self.items
    (rw c.in-Some.is at c.requires.within) c.if-marks-k.false c.in_ok-push.ensures.items)
