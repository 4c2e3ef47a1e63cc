-- Sectors listed by their blocks and counts (ours).
use Rattle.std.specs.Prelude.{◌≡◌, ℕ, ◌<◌, List, [], All, AllPairs, Contains, slice_index_or}
use Rattle.map_cells.specs.declared.block.Block.{Block}
use Rattle.map_picture.specs.declared.sectors.SectorCells.{SectorCells}

-- a sector below the n-th that has cells, with its blocks and their count
pub record IsListed (lists : List (List Block)) (counts : List ℕ) (n : ℕ) (one : SectorCells) : Type 0 where
  pub below : one.number < n
  pub some : 0 < one.cells
  pub count : one.cells ≡ slice_index_or counts one.number 0
  pub blocks : one.blocks.now ≡ slice_index_or lists one.number []

-- all sectors below the n-th that have cells, ascending
pub record AreListed (lists : List (List Block)) (counts : List ℕ) (n : ℕ) (list : List SectorCells) : Type 0 where
  pub ascending : AllPairs (λ a b. a.number < b.number) list
  pub each : All (IsListed lists counts n) list
  pub every : (s : ℕ) → s < n → 0 < slice_index_or counts s 0 → (one : SectorCells) × Contains list one × (one.number ≡ s)
