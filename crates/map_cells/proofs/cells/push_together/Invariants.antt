use Rattle.std.proofs.Common.{◌-◌, ◌<◌, ◌≤◌}
use Rattle.map_cells.specs.Cells.{AddsRow}
use Rattle.map_cells.specs.Grid.{columns_of}
use Rattle.map_cells.specs.Way.{AllCome, ArePending}
use Rattle.map_cells.proofs.cells.push_together.Given as goal

abbrev pub invariant-loop-from : goal.invariant-loop-from
invariant-loop-from g l = record {
  within : l.from ≤ columns_of l.row.grid;
  added : AddsRow l.shown l.row.grid l.row.j l.from l.fn.seen l.seen;
  rest : l.from < columns_of l.row.grid → (l.from < l.hand.end) × (l.hand.end ≤ columns_of l.row.grid)
      × AllCome l.shown l.row l.from l.hand.end l.hand.word
      × ArePending l.shown l.row l.hand.end (columns_of l.row.grid) l.pending.items;
}

abbrev pub decreases-loop-from : goal.decreases-loop-from
decreases-loop-from g l = columns_of l.row.grid - l.from
