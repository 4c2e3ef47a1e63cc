use Rattle.std.proofs.Common.{◌<◌, ◌≤◌}
use Rattle.map_cells.proofs.WayLemmas.{AllComeIn}
use Rattle.map_cells.specs.Grid.{columns_of}
use Rattle.map_cells.specs.Way.{ArePending}
use Rattle.map_cells.proofs.way.go_down.Given as goal

abbrev pub invariant-turns : goal.invariant-turns
invariant-turns l = record {
  some : l.from < l.hand.end;
  within : l.hand.end ≤ columns_of l.row.grid;
  come : AllComeIn l.level l.row l.from l.hand.end l.hand.word l._turn;
  pending : ArePending l.level l.row l.hand.end (columns_of l.row.grid) l.pending.items;
}
