use Rattle.std.proofs.Common.{◌≡◌, ℕ, ◌<◌, ◌%◌, ◌/◌}
use Rattle.std.specs.Prelude.{Some}
use Rattle.std.specs.List.{slice_get}
use Rattle.map_cells.specs.Cells.{cell}
use Rattle.map_cells.specs.Grid.{columns_of}
use Rattle.wadlook_c.specs.Seen.{cell_number}
use Rattle.wadlook_c.proofs.cells.put_cells.Given as goal

abbrev pub invariant-loop-at : goal.invariant-loop-at
invariant-loop-at g l =
    (n : ℕ) → n < l.at → slice_get l.out n ≡ Some (cell_number (cell l.cells (n % columns_of l.cells.grid) (n / columns_of l.cells.grid)))
