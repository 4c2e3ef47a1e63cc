use Rattle.std.proofs.Common.{ℕ, ◌<◌, ◌≤◌}
use Rattle.map_cells.specs.Blocks.{IsRun}
use Rattle.map_cells.specs.Cells.{cell}
use Rattle.map_cells.proofs.cells.Cells.run_rows.Given as goal

abbrev pub invariant-loop-r : goal.invariant-loop-r
invariant-loop-r g l = (k : ℕ) → l.fn.j ≤ k → k < l.r → IsRun (cell l.self) l.sector l.i k l.n
