use Rattle.map_cells.proofs.FrontLemmas.{IsFrontOfFirst}
use Rattle.map_cells.specs.Front.{IsThose}
use Rattle.map_cells.proofs.front.front_of_listed.Given as goal

abbrev pub invariant-loop-i : goal.invariant-loop-i
invariant-loop-i l = IsThose (IsFrontOfFirst l.level l.fn.segs l.row l.i) l.fn.span l.front
