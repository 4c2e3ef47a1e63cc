-- What the released game does with a level, in words and with the level's values (ours). Each text comes before other bytes.
use Rattle.std.specs.Prelude.{ℕ, Bool, true, false, List, ◌++◌, codes}
use Rattle.std.specs.Fmt.{decimal, signed_decimal}
use Rattle.std.specs.List.{slice_get}
use Rattle.std.specs.Option.{option_map_or}
use Rattle.game_numbers.specs.declared.key.Key.{Key}
use Rattle.game_numbers.specs.declared.key.Key.TheVariants.{Blue, Yellow, Red}
use Rattle.game_warnings.specs.Misplaced as misplaced
use Rattle.game_warnings.specs.declared.skill.Skills.{Skills}
use Rattle.game_warnings.specs.declared.warning.Barrier.{Barrier}
use Rattle.game_warnings.specs.declared.warning.Barrier.TheVariants.{NoBack, LetsNone}
use Rattle.game_warnings.specs.declared.warning.GameWarning.{GameWarning}
use Rattle.game_warnings.specs.declared.warning.GameWarning.TheVariants.{UnknownSpecial, ZeroTag, NeverCrossed, NoDestination, OneSidedDoor, ManyPlatforms, ManyCeilings, Harmful, DeadlyFloor, NoExit, Locked, EndsThings, InNoSkill, NoTarget, ManyTargets, ManyScrolling, ManyPerpetual, ManyStarts, LongSave, LacksPatch, MisplacedFlat}
use Rattle.game_warnings.specs.declared.warning.Harm.{Harm}
use Rattle.game_warnings.specs.declared.warning.Harm.TheVariants.{NoLine, NoRing, OpenRing, ManyNeighbours, NoNeighbour}
use Rattle.game_warnings.specs.declared.warning.Surface.{Surface}
use Rattle.game_warnings.specs.declared.warning.Surface.TheVariants.{Floor, Ceiling}
use Rattle.map_level.specs.Level.{Level}
use Rattle.lens_texts.specs.Label.{named_text}

-- the special of a linedef or of a sector, and the kind of a thing: `special K`, `type K`
abbrev pub linedef_special_text : Level → ℕ → List ℕ → List ℕ
linedef_special_text level i rest = option_map_or (λ found. codes "special " ++ (signed_decimal found.special ++ rest)) (slice_get level.linedefs.records i) rest

abbrev pub sector_special_text : Level → ℕ → List ℕ → List ℕ
sector_special_text level i rest = option_map_or (λ found. codes "special " ++ (signed_decimal found.special ++ rest)) (slice_get level.sectors.records i) rest

abbrev pub kind_text : Level → ℕ → List ℕ → List ℕ
kind_text level i rest = option_map_or (λ found. codes "type " ++ (signed_decimal found.kind ++ rest)) (slice_get level.things.records i) rest

-- a linedef's tag
abbrev pub tag_number : Level → ℕ → List ℕ → List ℕ
tag_number level i rest = option_map_or (λ found. signed_decimal found.tag ++ rest) (slice_get level.linedefs.records i) rest

-- a number, and what there are so many of
abbrev pub count_text : ℕ → List ℕ → List ℕ → List ℕ
count_text count what rest = decimal count ++ (what ++ rest)

-- what keeps all from crossing a linedef
abbrev pub barrier_text : Barrier → List ℕ → List ℕ
barrier_text NoBack rest = codes " can't be crossed: it has no back sidedef" ++ rest
barrier_text LetsNone rest = codes " can't be crossed: it lets none through" ++ rest

-- how a special harms a sector
abbrev pub harm_text : Harm → List ℕ → List ℕ
harm_text (NoLine sector) rest = codes ": sector " ++ (decimal sector ++ (codes " has no linedef: its use ends the game" ++ rest))
harm_text (NoRing linedef sector) rest =
    codes ": linedef " ++ (decimal linedef ++ (codes ", the first of sector " ++ (decimal sector
    ++ (codes ", has no other side: its use ends the game" ++ rest))))
harm_text (OpenRing linedef ring) rest =
    codes ": linedef " ++ (decimal linedef ++ (codes " of sector " ++ (decimal ring ++ (codes " has no back sidedef: its use ends the game" ++ rest))))
harm_text (ManyNeighbours sector neighbours) rest =
    codes ": sector " ++ (decimal sector ++ (codes " has " ++ count_text neighbours (codes " higher neighbours, 20 are the most") rest))
harm_text (NoNeighbour sector height) rest =
    codes ": sector " ++ (decimal sector ++ (codes " finds no neighbour at " ++ (signed_decimal height ++ (codes ", its new special is what memory held" ++ rest))))

-- a key's colour
abbrev pub key_text : Key → List ℕ → List ℕ
key_text Blue rest = codes " linedefs want a blue key" ++ rest
key_text Yellow rest = codes " linedefs want a yellow key" ++ rest
key_text Red rest = codes " linedefs want a red key" ++ rest

-- the skills in which something holds, of easy, medium and hard
abbrev pub skills_at : Bool → Bool → Bool → List ℕ → List ℕ
skills_at true true true rest = codes "easy, medium, hard" ++ rest
skills_at true true false rest = codes "easy, medium" ++ rest
skills_at true false true rest = codes "easy, hard" ++ rest
skills_at true false false rest = codes "easy" ++ rest
skills_at false true true rest = codes "medium, hard" ++ rest
skills_at false true false rest = codes "medium" ++ rest
skills_at false false true rest = codes "hard" ++ rest
skills_at false false false rest = rest

abbrev pub skills_text : Skills → List ℕ → List ℕ
skills_text skills rest = skills_at skills.easy skills.medium skills.hard rest

-- that linedefs want a key that isn't there
abbrev pub locked_text : Key → ℕ → Skills → List ℕ → List ℕ
locked_text key linedefs skills rest = decimal linedefs ++ key_text key (codes ", which isn't there in " ++ skills_text skills rest)

-- of which surface of a sector
abbrev pub surface_text : Surface → List ℕ → List ℕ
surface_text Floor rest = codes "floor flat " ++ rest
surface_text Ceiling rest = codes "ceiling flat " ++ rest

-- that the flat of a sector's floor or ceiling isn't between the ends of the flats
abbrev pub misplaced_text : Level → ℕ → Surface → List ℕ → List ℕ
misplaced_text level sector surface rest =
    option_map_or (λ found. surface_text surface (named_text (misplaced.flat_of surface found) (codes " isn't between F_START and F_END" ++ rest)))
    (slice_get level.sectors.records sector) rest

-- what the game does, before other bytes
abbrev pub game_message : Level → GameWarning → List ℕ → List ℕ
game_message level (UnknownSpecial linedef) rest = linedef_special_text level linedef (codes " is none of the game's" ++ rest)
game_message level (ZeroTag linedef sectors) rest =
    linedef_special_text level linedef (codes " with tag 0, which " ++ count_text sectors (codes " sectors have") rest)
game_message level (NeverCrossed linedef barrier) rest = linedef_special_text level linedef (barrier_text barrier rest)
game_message level (NoDestination linedef) rest =
    linedef_special_text level linedef (codes " has no destination: no sector with tag " ++ tag_number level linedef (codes " has a thing of type 14" ++ rest))
game_message level (OneSidedDoor linedef) rest =
    linedef_special_text level linedef (codes " without a back sidedef: its use ends the game" ++ rest)
game_message level (ManyPlatforms linedef platforms) rest =
    linedef_special_text level linedef (codes " starts " ++ count_text platforms (codes " platforms, 30 are the most: it ends the game") rest)
game_message level (ManyCeilings linedef ceilings) rest =
    linedef_special_text level linedef (codes " starts " ++ count_text ceilings (codes " ceilings, 30 are the most") rest)
game_message level (Harmful linedef harm) rest = linedef_special_text level linedef (harm_text harm rest)
game_message level (DeadlyFloor sector) rest = sector_special_text level sector (codes ": a player on its floor ends the game" ++ rest)
game_message level NoExit rest = codes "no exit" ++ rest
game_message level (Locked key linedefs skills) rest = locked_text key linedefs skills rest
game_message level (EndsThings thing follow) rest = kind_text level thing (codes " ends the reading of things, " ++ count_text follow (codes " follow") rest)
game_message level (InNoSkill thing) rest = codes "appears in no skill" ++ rest
game_message level (NoTarget thing skills) rest =
    codes "has no target (type 87) in " ++ skills_text skills (codes ": its shot ends the game" ++ rest)
game_message level (ManyTargets thing skills) rest =
    codes "has more than 32 targets in " ++ skills_text skills (codes ": its shot ends the game" ++ rest)
game_message level (ManyScrolling linedefs) rest = count_text linedefs (codes " scrolling linedefs, 64 are the most") rest
game_message level (ManyPerpetual sectors) rest = count_text sectors (codes " perpetual platforms, 30 are the most") rest
game_message level (ManyStarts starts) rest = count_text starts (codes " deathmatch starts, 10 are the most") rest
game_message level (LongSave bytes) rest = count_text bytes (codes " bytes to save at its start, 180224 are the most") rest
game_message level (LacksPatch texture) rest = codes "texture " ++ named_text texture (codes " lacks a patch: the game doesn't start" ++ rest)
game_message level (MisplacedFlat sector surface) rest = misplaced_text level sector surface rest
