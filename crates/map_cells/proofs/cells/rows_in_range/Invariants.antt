use Rattle.std.proofs.Common.{◌≤◌}
use Rattle.map_cells.proofs.cells.rows_in_range.Given as goal

abbrev pub invariant-loop-j : goal.invariant-loop-j
invariant-loop-j l = l.count ≤ l.j
