-- Cells that are told row by row.
use Rattle.std.proofs.Common.{◌≡◌, ◌↔◌, ℕ, ◌+◌, ◌*◌, ◌/◌, ◌%◌, ◌++◌, ◌<◌, ◌≤◌, ℤ, List, Option, None, Some, refl, sym, subst, arith}
use Rattle.std.specs.Prelude.{IfNone, IfSome}
use Rattle.std.proofs.Math.Nat.{mul-le-mul_left}
use Rattle.std.proofs.lemmas.Nat.{div-mul-add, mod-mul-add}
use Rattle.std.specs.List.{slice_get}
use Rattle.map_cells.specs.Cells.{Cells, cell}
use Rattle.le_rec.specs.declared.records.Vertex.{Vertex}
use Rattle.map_cells.specs.Ends.{IsEnd}
use Rattle.map_cells.specs.Frame.{Encloses, Frame}
use Rattle.map_cells.specs.Grid.{Grid, IsSize, columns_of, rows_of}
use Rattle.map_level.specs.Level.{Level}
use Rattle.map_picture.specs.Drawing.{HasNothing, IsFrameOf}
use Rattle.wadlook_c.specs.Seen.{IsGrid, SeesCells, cell_number, frame_of}
use Rattle.wadlook_c.specs.declared.cells.WadlookView.{WadlookView}
use Rattle.wadlook_c.proofs.SliceLemmas.{slice_get-append_some}

-- the frame of a level, where none is asked for
pub frame_found : (level : Level) (asked result : Option Frame) → asked ≡ None → ((found : Frame) → (result ≡ Some found) ↔ Encloses (IsEnd level) found)
    → IfSome result (IsFrameOf level asked)
frame_found level asked None is told = tt
frame_found level asked (Some found) is told = subst (λ (o : Option Frame). IsFrameOf level o found) (sym is) ((told found).0 refl)

-- or there is nothing to draw
pub nothing_found : (level : Level) (asked result : Option Frame) → asked ≡ None → ((result ≡ None) ↔ ((v : Vertex) → ¬ IsEnd level v))
    → IfNone result (HasNothing level asked)
nothing_found level asked None is told = record { unasked = is; none = told.0 refl }
nothing_found level asked (Some found) is told = tt

-- the cells over the frame that was found are those of the view
pub grid_seen : (level : Level) (view : WadlookView) (asked : Option Frame) (frame : Frame) (count : ℕ) (made grid : Grid) → asked ≡ frame_of view
    → IsFrameOf level asked frame → made.frame ≡ frame → IsSize frame count made.size → count ≡ view.cells → grid ≡ made → IsGrid level view grid
grid_seen level view asked frame count made grid is framed same size counted over =
    subst (λ (g : Grid). IsGrid level view g) (sym over) (record {
      framed = subst (λ (f : Frame). IsFrameOf level (frame_of view) f) (sym same) (subst (λ (o : Option Frame). IsFrameOf level o frame) is framed);
      size = subst (λ (f : Frame). IsSize f view.cells made.size) (sym same) (subst (λ n. IsSize frame n made.size) counted size);
    })

-- the column and the row of a cell, by its place
cell_at : (w i j : ℕ) → i < w → ((j * w + i) % w ≡ i) × ((j * w + i) / w ≡ j)
cell_at w i j within = (mod-mul-add j w i within, div-mul-add j w i within)

-- each place up to the end has its cell
pub sees_all : (cells : Cells) (told : List ℤ) (end : ℕ) → end ≡ columns_of cells.grid * rows_of cells.grid
    → ((n : ℕ) → n < end → slice_get told n ≡ Some (cell_number (cell cells (n % columns_of cells.grid) (n / columns_of cells.grid))))
    → SeesCells cells told
sees_all cells told end all each i j column row =
    let w = columns_of cells.grid in
    let place = cell_at w i j column in
    let rows : w * (j + 1) ≤ w * rows_of cells.grid = mul-le-mul_left w (omega arith) in
    rw (place.0, place.1) at (each (j * w + i) (omega (arith, all, rows)))

-- what is told in front is told of the whole
pub sees_front : (cells : Cells) (front rest : List ℤ) → SeesCells cells front → SeesCells cells (front ++ rest)
sees_front cells front rest sees i j column row = slice_get-append_some front rest (j * columns_of cells.grid + i) (cell_number (cell cells i j)) (sees i j column row)
