-- The sectors of a level's ssectors, listed (P_GroupLines of p_setup.c).
use Rattle.std.specs.Prelude.{◌≡◌, ℕ, ◌<◌, List, length}
use Rattle.std.specs.List.{slice_get}
use Rattle.map_level.specs.Level.{Level}
use Rattle.map_level.specs.SectorOf.{sector_of}
use Rattle.map_tree.specs.Child.{ssector_count}

-- the sector of each ssector of a level, in order
pub record ListsSectors (level : Level) (sectors : List ℕ) : Type 0 where
  pub long : length sectors ≡ ssector_count level
  pub each : (t : ℕ) → t < ssector_count level → sector_of level t ≡ slice_get sectors t
