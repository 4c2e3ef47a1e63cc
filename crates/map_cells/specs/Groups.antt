-- The blocks of each sector (ours).
use Rattle.std.specs.Prelude.{◌≡◌, ◌↔◌, ◌⊎◌, ℕ, ◌<◌, ◌++◌, List, [], ◌∷◌, length, set, slice_index_or, Option, Some}
use Rattle.std.specs.List.{AllPairs, Contains}
use Rattle.map_cells.specs.declared.block.Block.{Block}
use Rattle.map_cells.specs.Blocks.{IsBlock, BeginsAt}

-- a block stands before another of its sector: by row, and then by column
abbrev pub StandsBefore : Block → Block → Type 0
StandsBefore a b = (a.row < b.row) ⊎ ((a.row ≡ b.row) × (a.column < b.column))

-- all blocks of a sector, each once, in order
pub record AreBlocksOf (cell : ℕ → ℕ → Option ℕ) (s : ℕ) (blocks : List Block) : Type 0 where
  pub ascending : AllPairs StandsBefore blocks
  pub exact : (b : Block) → Contains blocks b ↔ IsBlock cell s b

-- a list for each sector that a cell shows, by its number: those of its blocks
pub record AreGroups (cell : ℕ → ℕ → Option ℕ) (lists : List (List Block)) : Type 0 where
  pub every : (i j s : ℕ) → cell i j ≡ Some s → s < length lists
  pub blocks : (s : ℕ) → s < length lists → AreBlocksOf cell s (slice_index_or lists s [])

-- a block begins in an earlier row than j, or in row j before column i
abbrev pub IsBefore : Block → ℕ → ℕ → Type 0
IsBefore b i j = (b.row < j) ⊎ ((b.row ≡ j) × (b.column < i))

-- the blocks of a sector that begin before
pub record AreSome (cell : ℕ → ℕ → Option ℕ) (s i j : ℕ) (blocks : List Block) : Type 0 where
  pub ascending : AllPairs StandsBefore blocks
  pub exact : (b : Block) → Contains blocks b ↔ (IsBlock cell s b × IsBefore b i j)

-- and of all sectors
abbrev pub AreBlocksBefore : (ℕ → ℕ → Option ℕ) → ℕ → ℕ → List (List Block) → Type 0
AreBlocksBefore cell i j lists = (s : ℕ) → s < length lists → AreSome cell s i j (slice_index_or lists s [])

-- a block more of a sector
abbrev pub PushesBlock : ℕ → Block → List (List Block) → List (List Block) → Type 0
PushesBlock s b before after = after ≡ set before s (slice_index_or before s [] ++ b ∷ [])

-- the block that begins at a cell more, under the sector that it shows, where one does
abbrev pub AddsBlock : (ℕ → ℕ → Option ℕ) → ℕ → ℕ → List (List Block) → List (List Block) → Type 0
AddsBlock cell i j before after =
    (((b : Block) → ¬ BeginsAt cell i j b) × (after ≡ before))
    ⊎ ((s : ℕ) × (b : Block) × BeginsAt cell i j b × (cell i j ≡ Some s) × PushesBlock s b before after)
