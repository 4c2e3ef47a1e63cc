-- Levels all of whose references hold (ours). Most warnings need this.
use Rattle.std.specs.Prelude.{ℕ}
use Rattle.map_level.specs.Level.{Level}
use Rattle.map_level.specs.LinkFaults.{LinkHolds}
use Rattle.map_level.specs.declared.finding.Code.{Code}
use Rattle.map_level.specs.declared.finding.Code.TheVariants.{F3, F4, F5, F6, F7, F8, F9}

-- a code holds nowhere
abbrev pub HoldsNowhere : Level → Code → Type 0
HoldsNowhere level code = (i : ℕ) → ¬ LinkHolds level code i

-- a level has no fault F3 to F9
pub record HasReferences (level : Level) : Type 0 where
  pub linedef_vertexes : HoldsNowhere level F3
  pub linedef_sides : HoldsNowhere level F4
  pub sidedef_sectors : HoldsNowhere level F5
  pub seg_vertexes : HoldsNowhere level F6
  pub seg_linedefs : HoldsNowhere level F7
  pub seg_sides : HoldsNowhere level F8
  pub seg_sidedefs : HoldsNowhere level F9
