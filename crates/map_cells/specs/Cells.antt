-- Which sector each cell of a picture shows (ours).
use Rattle.std.specs.Prelude.{◌≡◌, ◌↔◌, ℕ, ◌+◌, ◌*◌, ◌<◌, ◌≤◌, ◌++◌, List, length, Option, Some, None, option_and_then, nat_lt, if◌then◌else◌}
use Rattle.std.specs.List.{slice_get}
use Rattle.map_level.specs.Level.{Level}
use Rattle.map_cells.specs.Grid.{Grid, columns_of, rows_of, cell_x, cell_y}
use Rattle.map_cells.specs.Row.{Row}
use Rattle.map_cells.specs.Shown.{IsShown}

-- the sectors of the cells, row by row
pub record Cells : Type 0 where
  pub grid : Grid
  pub shown : List (Option ℕ)

abbrev pub cells_at : Grid → List (Option ℕ) → Cells
cells_at grid shown = record { grid = grid; shown = shown }

-- as many as the grid has, which has at most 1024 in a row and in a column
pub record IsWhole (cells : Cells) : Type 0 where
  pub long : length cells.shown ≡ rows_of cells.grid * columns_of cells.grid
  pub columns : columns_of cells.grid ≤ 1024
  pub rows : rows_of cells.grid ≤ 1024

-- the sector that the cell in column i and row j shows, if any; none outside the grid
abbrev pub cell : Cells → ℕ → ℕ → Option ℕ
cell cells i j =
    if nat_lt i (columns_of cells.grid)
    then option_and_then (λ s. s) (slice_get cells.shown (j * columns_of cells.grid + i))
    else None

-- each cell shows the sector that is shown at its point
pub record AreCells (level : Level) (cells : Cells) : Type 0 where
  pub whole : IsWhole cells
  pub each : (i j s : ℕ) → i < columns_of cells.grid → j < rows_of cells.grid
      → (cell cells i j ≡ Some s) ↔ IsShown level (cell_x cells.grid i) (cell_y cells.grid j) s

-- a row of n cells, each with the sector that is shown at its point
pub record IsRow (level : Level) (grid : Grid) (j n : ℕ) (row : List (Option ℕ)) : Type 0 where
  pub long : length row ≡ n
  pub each : (i s : ℕ) → i < n
      → (option_and_then (λ seen. seen) (slice_get row i) ≡ Some s) ↔ IsShown level (cell_x grid i) (cell_y grid j) s

-- a row of n cells more
pub record AddsRow (level : Level) (grid : Grid) (j n : ℕ) (before after : List (Option ℕ)) : Type 0 where
  pub row : List (Option ℕ)
  pub whole : IsRow level grid j n row
  pub is : after ≡ before ++ row

-- a cell in column i of a row has the sector that is shown at its point
abbrev pub TellsCell : Level → Row → ℕ → Option ℕ → Type 0
TellsCell level row i told = (s : ℕ) → (told ≡ Some s) ↔ IsShown level (cell_x row.grid i) (cell_y row.grid row.j) s

-- where the first cells of a row were added, so were those up to another column
abbrev pub GoesOn : Level → Row → ℕ → ℕ → List (Option ℕ) → List (Option ℕ) → Type 0
GoesOn level row from end old new =
    (before : List (Option ℕ)) → AddsRow level row.grid row.j from before old → AddsRow level row.grid row.j end before new

-- from column i of row j up to another all cells show the same
pub record IsSameEnd (cells : Cells) (i j end : ℕ) : Type 0 where
  pub after : i < end
  pub few : end ≤ columns_of cells.grid
  pub same : (c : ℕ) → i ≤ c → c < end → cell cells c j ≡ cell cells i j
