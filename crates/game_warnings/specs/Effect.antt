-- W17: specials whose use ends or spoils the game.
use Rattle.std.specs.Prelude.{◌≡◌, ◌&&◌, ◌+◌, ◌<◌, if◌then◌else◌, ℕ, ℤ, Bool, List, FitsSigned, count_by, length, not, slice_index_or, IsSomeAnd, IsTrue}
use Rattle.std.specs.Int.{cast_unsigned, w16}
use Rattle.std.specs.List.{slice_get}
use Rattle.std.specs.Ordering.{int_eq}
use Rattle.le_rec.specs.declared.records.LineDef.{LineDef}
use Rattle.le_rec.specs.declared.records.Sector.{Sector}
use Rattle.game_numbers.specs.Number.{is_one_of}
use Rattle.game_numbers.specs.SectorSpecials.{timed_door}
use Rattle.game_numbers.specs.Specials.{ceiling, door, platform}
use Rattle.map_level.specs.Level.{Level}
use Rattle.map_level.specs.Links.{linedefs_of, sectors_of}
use Rattle.game_warnings.specs.Crossing.{HasNoBack}

-- linedef i is a door that is opened by hand, and has no back sidedef (EV_VerticalDoor of p_doors.c reads the one before the first)
abbrev pub IsOneSidedDoor : Level → ℕ → Type 0
IsOneSidedDoor level i =
    IsSomeAnd (slice_get (linedefs_of level) i) (λ linedef. IsTrue (is_one_of door linedef.special) × HasNoBack level linedef)

-- a sector answers a tag: it has the tag, and no door from the start (sector->specialdata of EV_DoPlat and EV_DoCeiling)
abbrev pub answers : ℤ → Sector → Bool
answers tag sector = int_eq sector.tag tag && not (is_one_of timed_door sector.special)

-- how many do
abbrev pub answer_count : Level → ℤ → ℕ
answer_count level tag = count_by (answers tag) (sectors_of level)

-- a linedef's special is one of some, and starts more than the 30 that activeplats of p_plats.c and activeceilings of p_ceilng.c have
pub record StartsTooMany (level : Level) (specials : List ℕ) (count : ℕ) (linedef : LineDef) : Type 0 where
  pub special : IsTrue (is_one_of specials linedef.special)
  pub are : count ≡ answer_count level linedef.tag
  pub many : 30 < count

-- linedef i starts so many platforms (P_AddActivePlat of p_plats.c ends the game), or so many ceilings (P_AddActiveCeiling of p_ceilng.c forgets one)
abbrev pub HasManyPlatforms : Level → ℕ → ℕ → Type 0
HasManyPlatforms level i count = IsSomeAnd (slice_get (linedefs_of level) i) (StartsTooMany level platform count)

abbrev pub HasManyCeilings : Level → ℕ → ℕ → Type 0
HasManyCeilings level i count = IsSomeAnd (slice_get (linedefs_of level) i) (StartsTooMany level ceiling count)

-- for each tag, by its word without the sign, how many sectors answer it
pub record AreAnswers (level : Level) (counts : List ℕ) : Type 0 where
  pub long : length counts ≡ 65536
  pub told : (tag : ℤ) → FitsSigned w16 tag → slice_index_or counts (cast_unsigned w16 tag) 0 ≡ answer_count level tag

-- one sector more was counted, or none
pub record AddsAnswer (sector : Sector) (before after : List ℕ) : Type 0 where
  pub told : (tag : ℤ) → FitsSigned w16 tag
      → slice_index_or after (cast_unsigned w16 tag) 0 ≡ slice_index_or before (cast_unsigned w16 tag) 0 + (if answers tag sector then 1 else 0)
