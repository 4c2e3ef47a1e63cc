use Rattle.std.proofs.Common.{◌≡◌, ℕ, ◌<◌, ◌≤◌, Some, length, map}
use Rattle.map_cells.specs.Cells.{cell}
use Rattle.map_cells.specs.Groups.{AreBlocksBefore}
use Rattle.map_cells.proofs.groups.Groups.of.Given as goal

abbrev pub invariant-loop-j : goal.invariant-loop-j
invariant-loop-j g l = record {
  before : AreBlocksBefore (cell l.cells) 0 l.j (map (λ list. list.items) l.lists.items);
  few : length l.lists.items ≤ 65536;
  bound : (i j s : ℕ) → cell l.cells i j ≡ Some s → s < length l.lists.items;
}
