use Rattle.std.proofs.Common.{◌≡◌, length}
use Rattle.map_cells.specs.Ends.{ListsEnds}
use Rattle.map_cells.proofs.ends.listed_ends.Given as goal

abbrev pub invariant-loop-i : goal.invariant-loop-i
invariant-loop-i g l = record {
  long : length l.list.items ≡ l.i;
  listed : ListsEnds l.level l.list.items;
}
