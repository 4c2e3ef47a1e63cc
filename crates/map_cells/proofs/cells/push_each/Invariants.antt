use Rattle.map_cells.specs.Cells.{AddsRow}
use Rattle.map_cells.proofs.cells.push_each.Given as goal

abbrev pub invariant-loop-i : goal.invariant-loop-i
invariant-loop-i g l = AddsRow l.shown l.grid l.j l.i l.fn.seen l.seen
