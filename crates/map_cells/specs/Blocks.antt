-- Blocks of cells that show one sector, by what the cell in each column and row shows (ours).
use Rattle.std.specs.Prelude.{◌≡◌, ◌≢◌, ℕ, ◌+◌, ◌-◌, ◌<◌, ◌≤◌, Option, Some}
use Rattle.map_cells.specs.declared.block.Block.{Block}

-- n cells of row j from column i on show sector s, and no longer run does
pub record IsRun (cell : ℕ → ℕ → Option ℕ) (s i j n : ℕ) : Type 0 where
  pub some : 0 < n
  pub all : (c : ℕ) → i ≤ c → c < i + n → cell c j ≡ Some s
  pub left : 0 < i → cell (i - 1) j ≢ Some s
  pub right : cell (i + n) j ≢ Some s

-- a run that rows j to j + k - 1 all have, and rows j - 1 and j + k don't
pub record IsBlock (cell : ℕ → ℕ → Option ℕ) (s : ℕ) (b : Block) : Type 0 where
  pub some : 0 < b.height
  pub all : (r : ℕ) → b.row ≤ r → r < b.row + b.height → IsRun cell s b.column r b.width
  pub below : 0 < b.row → ¬ IsRun cell s b.column (b.row - 1) b.width
  pub above : ¬ IsRun cell s b.column (b.row + b.height) b.width

-- a block of some sector whose first column is i and whose first row is j
pub record BeginsAt (cell : ℕ → ℕ → Option ℕ) (i j : ℕ) (b : Block) : Type 0 where
  pub column : b.column ≡ i
  pub row : b.row ≡ j
  pub sector : ℕ
  pub block : IsBlock cell sector b

-- the cell in column i and row j is one of the block's
pub record HasCell (b : Block) (i j : ℕ) : Type 0 where
  pub left : b.column ≤ i
  pub right : i < b.column + b.width
  pub lowest : b.row ≤ j
  pub highest : j < b.row + b.height

-- one block has the cell, among the blocks of all sectors: one of sector s
pub record IsInOneBlock (cell : ℕ → ℕ → Option ℕ) (i j s : ℕ) : Type 0 where
  pub block : Block
  pub is : IsBlock cell s block
  pub has : HasCell block i j
  pub only : (r : ℕ) (other : Block) → IsBlock cell r other → HasCell other i j → (r ≡ s) × (other ≡ block)
