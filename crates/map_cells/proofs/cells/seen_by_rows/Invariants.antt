use Rattle.map_cells.proofs.CellLemmas.{AreRows}
use Rattle.map_cells.proofs.cells.seen_by_rows.Given as goal

abbrev pub invariant-loop-j : goal.invariant-loop-j
invariant-loop-j g l = AreRows l.shown l.grid l.j l.seen
