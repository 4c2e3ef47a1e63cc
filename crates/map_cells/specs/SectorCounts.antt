-- How many cells show each sector (ours).
use Rattle.std.specs.Prelude.{◌≡◌, ◌==◌, ℕ, Bool, false, List, Option, Some, None, count_by, slice_index_or}
use Rattle.map_cells.specs.Cells.{Cells}

-- what is seen is the sector
abbrev pub shows : ℕ → Option ℕ → Bool
shows s None = false
shows s (Some t) = t == s

-- how many cells show a sector
abbrev pub cells_of : Cells → ℕ → ℕ
cells_of cells s = count_by (shows s) cells.shown

-- for each sector how many cells show it, 0 behind the list's end
abbrev pub AreCounts : Cells → List ℕ → Type 0
AreCounts cells counts = (s : ℕ) → slice_index_or counts s 0 ≡ cells_of cells s
