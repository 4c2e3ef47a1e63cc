-- The cells of a picture (ours).
use Rattle.std.specs.Prelude.{ℕ, ◌+◌, ◌*◌, ◌/◌, ◌≤◌, ℤ, pos, ◌+ℤ◌, ◌-ℤ◌, max, unsigned_abs}
use Rattle.map_cells.specs.Frame.{Frame}

-- square cells of a size in map units, from the frame's least column and row on
pub record Grid : Type 0 where
  pub frame : Frame
  pub size : ℕ

-- the cells of a size over a frame
abbrev pub grid_at : Frame → ℕ → Grid
grid_at frame size = record { frame = frame; size = size }

-- a frame's longer side
abbrev pub longer_side : Frame → ℕ
longer_side frame = max (unsigned_abs (frame.x1 -ℤ frame.x0)) (unsigned_abs (frame.y1 -ℤ frame.y0))

-- the least size at which so many cells hold the whole units of the longer side
pub record IsSize (frame : Frame) (cells size : ℕ) : Type 0 where
  pub enough : longer_side frame + 1 ≤ size * cells
  pub least : (smaller : ℕ) → longer_side frame + 1 ≤ smaller * cells → size ≤ smaller

-- how many cells a row and a column of cells have
abbrev pub columns_of : Grid → ℕ
columns_of grid = unsigned_abs (grid.frame.x1 -ℤ grid.frame.x0) / grid.size + 1

abbrev pub rows_of : Grid → ℕ
rows_of grid = unsigned_abs (grid.frame.y1 -ℤ grid.frame.y0) / grid.size + 1

-- the point of the cell in column i and row j
abbrev pub cell_x : Grid → ℕ → ℤ
cell_x grid i = grid.frame.x0 +ℤ pos (i * grid.size + grid.size / 2)

abbrev pub cell_y : Grid → ℕ → ℤ
cell_y grid j = grid.frame.y0 +ℤ pos (j * grid.size + grid.size / 2)

-- at most 1024 cells in a row and in a column
pub record IsGrid (grid : Grid) : Type 0 where
  pub some : 1 ≤ grid.size
  pub most : grid.size ≤ 65536
  pub columns : columns_of grid ≤ 1024
  pub rows : rows_of grid ≤ 1024
