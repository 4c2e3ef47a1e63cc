-- The sector in which each thing of a level stands (R_PointInSubsector of r_main.c).
use Rattle.std.specs.Prelude.{◌≡◌, ℕ, List, length, Option, Some, None}
use Rattle.std.specs.List.{slice_get}
use Rattle.le_rec.specs.declared.records.Thing.{Thing}
use Rattle.map_geo.specs.Point.{IsInRange, point_at}
use Rattle.map_level.specs.Level.{Level}
use Rattle.map_tree.specs.Leaf.{LiesIn}

-- a thing's place is a point, and lies in this sector
pub record StandsInSector (level : Level) (thing : Thing) (sector : ℕ) : Type 0 where
  pub column : IsInRange thing.x
  pub row : IsInRange thing.y
  pub leaf : ℕ
  pub lies : LiesIn level (point_at thing.x thing.y) (leaf, sector)

-- the sector in which a thing stands, or none where its place is outside the points' range
abbrev pub StandsIn : Level → Thing → Option ℕ → Type 0
StandsIn level thing (Some sector) = StandsInSector level thing sector
StandsIn level thing None = ¬ (IsInRange thing.x × IsInRange thing.y)

-- one for each thing, in order
pub record StandIn (level : Level) (things : List Thing) (sectors : List (Option ℕ)) : Type 0 where
  pub long : length sectors ≡ length things
  pub each : (i : ℕ) (thing : Thing) (sector : Option ℕ) → slice_get things i ≡ Some thing → slice_get sectors i ≡ Some sector
      → StandsIn level thing sector
