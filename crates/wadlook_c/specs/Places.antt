-- What is told of points (ours).
use Rattle.std.specs.Prelude.{◌≡◌, ◌⊎◌, ℕ, ◌<◌, List, length, Some, IsSomeAnd}
use Rattle.std.specs.List.{slice_get}
use Rattle.map_geo.specs.Point.{IsInRange, Point, point_at}
use Rattle.map_level.specs.Level.{Level}
use Rattle.map_level.specs.SectorOf.{sector_of}
use Rattle.map_tree.specs.Leaf.{IsLeaf}
use Rattle.wadlook_c.specs.declared.points.WadlookPoint.{WadlookPoint}
use Rattle.wadlook_c.specs.declared.points.WadlookPlace.{WadlookPlace}

-- the ssector of a point is its only leaf, and the sector is that leaf's
pub record TellsLeaf (level : Level) (point : Point) (told : WadlookPlace) : Type 0 where
  pub leaf : IsLeaf level point told.ssector
  pub only : (t : ℕ) → IsLeaf level point t → t ≡ told.ssector
  pub sector : sector_of level told.ssector ≡ Some told.sector

-- the answer where there is none: ssector 65535, which no level has
abbrev pub nowhere : WadlookPlace
nowhere = record { ssector = 65535; sector = 65535 }

-- the answer for a point: `nowhere` if a coordinate is out of range
pub record TellsPlace (level : Level) (asked : WadlookPoint) (told : WadlookPlace) : Type 0 where
  pub inside : IsInRange asked.x → IsInRange asked.y → TellsLeaf level (point_at asked.x asked.y) told
  pub outside : ¬ (IsInRange asked.x × IsInRange asked.y) → told ≡ nowhere

-- `nowhere`, or an ssector with the sector that the list has for it
abbrev pub IsListed : List ℕ → WadlookPlace → Type 0
IsListed listed told = (told ≡ nowhere) ⊎ (slice_get listed told.ssector ≡ Some told.sector)

-- the place of each point stands at the point's number
abbrev pub TellsPlaces : Level → List WadlookPoint → List WadlookPlace → Type 0
TellsPlaces level asked told =
    (k : ℕ) → k < length asked
    → IsSomeAnd (slice_get asked k) (λ point. IsSomeAnd (slice_get told k) (TellsPlace level point))
