-- What is told of a point of a level that may have faults (ours).
use Rattle.std.specs.Prelude.{◌≡◌, ◌⊎◌, Some}
use Rattle.map_level.specs.Level.{Level}
use Rattle.map_level.specs.SectorOf.{sector_of}
use Rattle.map_tree.specs.Sound.{IsSound}
use Rattle.wadlook_c.specs.Places.{TellsPlace, nowhere}
use Rattle.wadlook_c.specs.declared.points.WadlookPlace.{WadlookPlace}
use Rattle.wadlook_c.specs.declared.points.WadlookPoint.{WadlookPoint}

-- `nowhere`, or an ssector with its sector
abbrev pub IsLinkedPlace : Level → WadlookPlace → Type 0
IsLinkedPlace level told = (told ≡ nowhere) ⊎ (sector_of level told.ssector ≡ Some told.sector)

-- in a sound level the place of the point, in any other some place that is linked, or none
pub record TellsUnder (level : Level) (asked : WadlookPoint) (told : WadlookPlace) : Type 0 where
  pub sound : IsSound level → TellsPlace level asked told
  pub linked : IsLinkedPlace level told
