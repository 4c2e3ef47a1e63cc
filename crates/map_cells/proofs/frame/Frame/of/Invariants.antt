use Rattle.map_cells.proofs.FrameLemmas.{Bounds, IsEndBelow}
use Rattle.map_cells.proofs.frame.Frame.of.Given as goal

abbrev pub invariant-loop-i : goal.invariant-loop-i
invariant-loop-i l = Bounds (IsEndBelow l.level l.i) l.frame
