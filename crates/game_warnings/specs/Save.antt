-- W22: how long a savegame is at a level's start (P_ArchivePlayers, P_ArchiveWorld, P_ArchiveThinkers and P_ArchiveSpecials of p_saveg.c,
-- with the sizes of the DOS program).
use Rattle.std.specs.Prelude.{◌&&◌, ◌||◌, ◌==◌, ℕ, ◌+◌, ◌*◌, ◌/◌, pos, Bool, not, count_by, List, [], ◌∷◌, length, max, take, if◌then◌else◌}
use Rattle.std.specs.Ordering.{int_eq}
use Rattle.le_rec.specs.declared.records.Sector.{Sector}
use Rattle.le_rec.specs.declared.records.Thing.{Thing}
use Rattle.game_numbers.specs.Kinds.{game_kinds}
use Rattle.game_numbers.specs.Number.{is_one_of}
use Rattle.game_numbers.specs.SectorSpecials.{flashing, glowing, timed_door}
use Rattle.map_level.specs.Level.{Level}
use Rattle.map_level.specs.Links.{linedefs_of, no_side, sectors_of, things_of}
use Rattle.game_warnings.specs.Ending.{read_count}
use Rattle.game_warnings.specs.Skill.{is_there}
use Rattle.game_warnings.specs.declared.skill.Skill.{Skill}
use Rattle.game_warnings.specs.declared.skill.Skill.TheVariants.{Easy, Medium, Hard}

-- a place in the file, behind which the next record begins: at the next multiple of 4 (PADSAVEP)
abbrev pub padded_place : ℕ → ℕ
padded_place at = (at + 3) / 4 * 4

-- behind a record of so many bytes, with a byte for its kind
abbrev pub behind : ℕ → ℕ → ℕ
behind size at = padded_place (at + 1) + size

-- how many sides the linedefs have
abbrev pub side_count : Level → ℕ
side_count level =
    count_by (λ linedef. not (int_eq linedef.side0 (no_side level.reading))) (linedefs_of level)
    + count_by (λ linedef. not (int_eq linedef.side1 (no_side level.reading))) (linedefs_of level)

-- behind the head, the player and the world
abbrev pub world_end : Level → ℕ
world_end level = 332 + 14 * length (sectors_of level) + 6 * length (linedefs_of level) + 10 * side_count level

-- a thing is there at the start: a player, or one of the game's that is there for one player in a skill
abbrev pub is_saved : Skill → Thing → Bool
is_saved skill thing = int_eq thing.kind (pos 1) || (is_one_of game_kinds thing.kind && is_there skill thing)

-- behind a thing (mobj_t has 154 bytes), and behind all
abbrev pub behind_thing : Skill → ℕ → Thing → ℕ
behind_thing skill at thing = if is_saved skill thing then behind 154 at else at

abbrev pub things_end : Skill → ℕ → List Thing → ℕ
things_end skill at [] = at
things_end skill at (thing ∷ things) = things_end skill (behind_thing skill at thing) things

-- how many bytes what a sector does takes: lights of 36 and 28, doors of 40
abbrev pub special_size : Sector → ℕ
special_size sector =
    if is_one_of flashing sector.special then 36 else (if is_one_of glowing sector.special then 28 else (if is_one_of timed_door sector.special then 40 else 0))

-- behind what a sector does, and behind all
abbrev pub behind_special : ℕ → Sector → ℕ
behind_special at sector = if special_size sector == 0 then at else behind (special_size sector) at

abbrev pub specials_end : ℕ → List Sector → ℕ
specials_end at [] = at
specials_end at (sector ∷ sectors) = specials_end (behind_special at sector) sectors

-- how long the file is in a skill: a byte ends the things, another the specials, and a third the file
abbrev pub saved_in : Level → Skill → ℕ
saved_in level skill = specials_end (things_end skill (world_end level) (take (read_count level) (things_of level)) + 1) (sectors_of level) + 2

-- in the skill in which it is longest
abbrev pub saved : Level → ℕ
saved level = max (saved_in level Easy) (max (saved_in level Medium) (saved_in level Hard))
