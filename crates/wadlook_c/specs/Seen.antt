-- Which sectors the cells of a picture show, as numbers (ours).
use Rattle.std.specs.Prelude.{◌≡◌, ℕ, ℤ, ◌+◌, ◌*◌, ◌<◌, pos, negsuc, true, List, Option, Some, None, if◌then◌else◌}
use Rattle.std.specs.List.{slice_get}
use Rattle.map_cells.specs.CellCount.{IsCellCount}
use Rattle.map_cells.specs.Cells.{AreCells, Cells, cell}
use Rattle.map_cells.specs.Frame.{Frame, IsFrame, frame_at}
use Rattle.map_cells.specs.Grid.{Grid, IsSize, cell_x, cell_y, columns_of, rows_of}
use Rattle.map_level.specs.Level.{Level}
use Rattle.map_level.specs.declared.reading.Reading.{Reading}
use Rattle.map_picture.specs.Drawing.{HasNothing, IsFrameOf}
use Rattle.wadlook_c.specs.Entries.{IsAcceptedAt, RefusesAcceptedAt, entry_number_of}
use Rattle.wadlook_c.specs.declared.cells.SeenFault.{SeenFault}
use Rattle.wadlook_c.specs.declared.cells.SeenFault.TheVariants.{NoView, Entry, Nothing}
use Rattle.wadlook_c.specs.declared.cells.WadlookGrid.{WadlookGrid}
use Rattle.wadlook_c.specs.declared.cells.WadlookView.{WadlookView}

-- the frame that is asked for
abbrev pub frame_of : WadlookView → Option Frame
frame_of view = if view.framed then Some (frame_at view.x0 view.y0 view.x1 view.y1) else None

-- a view has cells, and a frame where one is asked for
pub record IsView (view : WadlookView) : Type 0 where
  pub many : IsCellCount view.cells
  pub framed : view.framed ≡ true → IsFrame (frame_at view.x0 view.y0 view.x1 view.y1)

-- the sound level at an entry, and a view of it
pub record SeesLevel (wad : List ℕ) (entry : ℕ) (reading : Reading) (view : WadlookView) (level : Level) : Type 0 where
  pub accepted : IsAcceptedAt wad entry reading level
  pub asked : IsView view

-- the cells of the least size at which the frame's longer side has at most as many as are asked for
pub record IsGrid (level : Level) (view : WadlookView) (grid : Grid) : Type 0 where
  pub framed : IsFrameOf level (frame_of view) grid.frame
  pub size : IsSize grid.frame view.cells grid.size

-- their numbers
pub record TellsGrid (grid : Grid) (told : WadlookGrid) : Type 0 where
  pub size : told.size ≡ grid.size
  pub columns : told.columns ≡ columns_of grid
  pub rows : told.rows ≡ rows_of grid
  pub x : told.x ≡ cell_x grid 0
  pub y : told.y ≡ cell_y grid 0

pub record IsGridOf (level : Level) (view : WadlookView) (told : WadlookGrid) : Type 0 where
  pub grid : Grid
  pub is : IsGrid level view grid
  pub tells : TellsGrid grid told

-- the number of a cell's sector, -1 where it shows none
abbrev pub cell_number : Option ℕ → ℤ
cell_number (Some s) = pos s
cell_number None = negsuc 0

-- each cell's sector stands at its place, row by row
abbrev pub SeesCells : Cells → List ℤ → Type 0
SeesCells cells told =
    (i j : ℕ) → i < columns_of cells.grid → j < rows_of cells.grid
    → slice_get told (j * columns_of cells.grid + i) ≡ Some (cell_number (cell cells i j))

-- the cells of a view of a level are told
pub record AreSeen (level : Level) (view : WadlookView) (told : List ℤ) (grid : WadlookGrid) : Type 0 where
  pub cells : Cells
  pub are : AreCells level cells
  pub over : IsGrid level view cells.grid
  pub tells : TellsGrid cells.grid grid
  pub sees : SeesCells cells told

-- why none are told
abbrev pub RefusesView : List ℕ → ℕ → Reading → WadlookView → SeenFault → Type 0
RefusesView wad entry reading view NoView = ¬ IsView view
RefusesView wad entry reading view (Entry why) = RefusesAcceptedAt wad entry reading why
RefusesView wad entry reading view Nothing = (level : Level) × IsAcceptedAt wad entry reading level × HasNothing level (frame_of view)

-- the number of that
abbrev pub seen_number_of : SeenFault → ℕ
seen_number_of NoView = 30
seen_number_of (Entry why) = entry_number_of why
seen_number_of Nothing = 31

pub record RefusesSeen (wad : List ℕ) (entry : ℕ) (reading : Reading) (view : WadlookView) (status : ℕ) : Type 0 where
  pub why : SeenFault
  pub number : status ≡ seen_number_of why
  pub holds : RefusesView wad entry reading view why
