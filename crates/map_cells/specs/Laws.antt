-- Laws of what a picture shows (ours).
use Rattle.std.specs.Prelude.{◌≡◌, ℕ, ℤ, Some}
use Rattle.map_level.specs.Level.{Level}
use Rattle.map_tree.specs.Sound.{IsSound}
use Rattle.map_cells.specs.Shown.{IsShown}
use Rattle.map_cells.specs.Blocks.{IsInOneBlock}
use Rattle.map_cells.specs.Cells.{Cells, IsWhole, cell}

-- in a sound level one sector at most is shown at a point
abbrev pub OneSectorShown : Type 0
OneSectorShown = (level : Level) (x y : ℤ) (s r : ℕ) → IsSound level → IsShown level x y s → IsShown level x y r → r ≡ s

-- each cell that shows a sector is in exactly one block, which shows that sector
abbrev pub OneBlockACell : Type 0
OneBlockACell = (cells : Cells) (i j s : ℕ) → IsWhole cells → cell cells i j ≡ Some s → IsInOneBlock (cell cells) i j s
