use Rattle.std.proofs.Common.{◌+◌, length}
use Rattle.map_tree.specs.Marks.{unmarked}
use Rattle.node_tree.proofs.MarkLemmas.{Visiting, NoneInHand}
use Rattle.node_tree.proofs.marks.mark_reached.Given as goal

abbrev pub invariant-loop-k : goal.invariant-loop-k
invariant-loop-k g l = Visiting (g.T.Forked.shape l.places) l.marks l.waits.items NoneInHand

abbrev pub decreases-loop-k : goal.decreases-loop-k
decreases-loop-k g l = length l.waits.items + unmarked l.marks
