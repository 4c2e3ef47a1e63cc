-- The sector of each ssector (P_GroupLines of p_setup.c).
use Rattle.std.specs.Prelude.{◌≡◌, ℕ, List, length, Some}
use Rattle.std.specs.List.{slice_get}
use Rattle.map_level.specs.Level.{Level}
use Rattle.map_level.specs.Links.{ssectors_of}
use Rattle.map_level.specs.SectorOf.{sector_of}

-- one for each ssector, in order
pub record AreSectors (level : Level) (sectors : List ℕ) : Type 0 where
  pub long : length sectors ≡ length (ssectors_of level)
  pub each : (t sector : ℕ) → slice_get sectors t ≡ Some sector → sector_of level t ≡ Some sector
