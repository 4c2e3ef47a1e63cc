-- The numbers of a census, one a sector (ours).
use Rattle.std.specs.Prelude.{◌≡◌, ◌≢◌, ℕ, ◌<◌, List, Some, length, slice_index}
use Rattle.std.specs.List.{All, AllPairs, Contains}
use Rattle.map_level.specs.Level.{Level}
use Rattle.map_level.specs.SectorOf.{sector_of}

-- the sectors whose number is above 0, each once
pub record Touches (numbers touched : List ℕ) : Type 0 where
  pub some : All (λ s. 0 < slice_index numbers s) touched
  pub once : AllPairs (λ s t. s ≢ t) touched
  pub each : (s : ℕ) → 0 < slice_index numbers s → Contains touched s

-- a number for each sector that an ssector of the level has, all of them 0
pub record IsFresh (level : Level) (numbers : List ℕ) : Type 0 where
  pub zeros : (s : ℕ) → slice_index numbers s ≡ 0
  pub within : (t k : ℕ) → sector_of level t ≡ Some k → k < 65536 → k < length numbers
