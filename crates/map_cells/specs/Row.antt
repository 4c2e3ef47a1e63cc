-- The points of a row of cells (ours).
use Rattle.std.specs.Prelude.{ℕ, ◌<◌}
use Rattle.map_geo.specs.Point.{Point, IsInRange, point_at}
use Rattle.map_cells.specs.Grid.{Grid, columns_of, rows_of, cell_x, cell_y}

-- row j of a grid
pub record Row : Type 0 where
  pub grid : Grid
  pub j : ℕ

abbrev pub row_at : Grid → ℕ → Row
row_at grid j = record { grid = grid; j = j }

-- the point of its cell in column i
abbrev pub point_of : Row → ℕ → Point
point_of row i = point_at (cell_x row.grid i) (cell_y row.grid row.j)

-- the coordinates of all its points are in range: their columns and their height
pub record IsRowInRange (row : Row) : Type 0 where
  pub there : row.j < rows_of row.grid
  pub columns : (i : ℕ) → i < columns_of row.grid → IsInRange (cell_x row.grid i)
  pub height : IsInRange (cell_y row.grid row.j)
