use Rattle.std.proofs.Common.{◌≡◌, ◌≤◌, ◌-◌, length, map}
use Rattle.map_cells.specs.Cells.{cell}
use Rattle.map_cells.specs.Grid.{columns_of}
use Rattle.map_cells.specs.Groups.{AreBlocksBefore}
use Rattle.map_cells.proofs.groups.add_row.Given as goal

abbrev pub invariant-loop-i : goal.invariant-loop-i
invariant-loop-i g l = record {
  before : AreBlocksBefore (cell l.cells) l.i l.j (map (λ list. list.items) l.lists);
  long : length l.lists ≡ length l.fn.lists;
  within : l.i ≤ columns_of l.cells.grid;
}

abbrev pub decreases-loop-i : goal.decreases-loop-i
decreases-loop-i g l = columns_of l.cells.grid - l.i
