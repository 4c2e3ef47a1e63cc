-- Laws of warnings (ours).
use Rattle.std.specs.Prelude.{◌≡◌, ◌↔◌, ℕ, ◌<◌, List, Option, Some, None}
use Rattle.std.specs.List.{slice_get}
use Rattle.le_rec.specs.declared.records.Thing.{Thing}
use Rattle.map_cells.specs.Cells.{AreCells, Cells, cell}
use Rattle.map_cells.specs.Grid.{Grid, cell_x, cell_y, columns_of, rows_of}
use Rattle.map_cells.specs.Shown.{IsShown}
use Rattle.map_geo.specs.Point.{IsInRange}
use Rattle.map_level.specs.Level.{Level}
use Rattle.map_level.specs.Links.{things_of}
use Rattle.map_tree.specs.Sound.{IsSound}
use Rattle.wad_dir.specs.Wad.{Wad}
use Rattle.map_warnings.specs.Closing.{leaving, reaching}
use Rattle.map_warnings.specs.Holds.{HoldsOf, IsWarning}
use Rattle.map_warnings.specs.declared.warning.Warning.{Warning}
use Rattle.map_warnings.specs.declared.warning.Warning.TheVariants.{InVoid}
use Rattle.level_codes.specs.declared.code.WarningCode.TheVariants.{W1, W3}

-- in a level without W1 each sector's sides make closed walks: as many leave each vertex as reach it
abbrev pub ClosedIsBalanced : Type 0
ClosedIsBalanced = (level : Level) → ((w : Warning) → ¬ HoldsOf level W1 w) → (s v : ℕ) → leaving level s v ≡ reaching level s v

-- in a sound level, W3 warns of a thing exactly if its place is in range and no sector is shown there
abbrev pub VoidShowsNoSector : Type 0
VoidShowsNoSector =
    (files : Option (List Wad)) (level : Level) (k : ℕ) (thing : Thing) (shown : Option ℕ) → IsSound level → slice_get (things_of level) k ≡ Some thing
    → ((s : ℕ) → (shown ≡ Some s) ↔ IsShown level thing.x thing.y s)
    → IsWarning files level W3 (InVoid k) ↔ (IsInRange thing.x × IsInRange thing.y × (shown ≡ None))

-- a thing is at the point of a grid's cell, and its place is in range
pub record StandsAtCell (grid : Grid) (i j : ℕ) (thing : Thing) : Type 0 where
  pub column : i < columns_of grid
  pub row : j < rows_of grid
  pub x : thing.x ≡ cell_x grid i
  pub y : thing.y ≡ cell_y grid j
  pub x_in_range : IsInRange thing.x
  pub y_in_range : IsInRange thing.y

-- W3 warns of a thing at the point of a picture's cell exactly if the cell is empty
abbrev pub VoidIsAnEmptyCell : Type 0
VoidIsAnEmptyCell =
    (files : Option (List Wad)) (level : Level) (cells : Cells) (k i j : ℕ) (thing : Thing) → IsSound level → AreCells level cells
    → slice_get (things_of level) k ≡ Some thing → StandsAtCell cells.grid i j thing
    → IsWarning files level W3 (InVoid k) ↔ (cell cells i j ≡ None)
