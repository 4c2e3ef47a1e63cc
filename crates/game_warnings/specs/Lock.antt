-- W19: linedefs that want a key which isn't there (EV_VerticalDoor and EV_DoLockedDoor of p_doors.c).
use Rattle.std.specs.Prelude.{◌≡◌, ◌&&◌, ℕ, ◌<◌, Bool, count_by, not, IsTrue}
use Rattle.std.specs.List.{list_any}
use Rattle.le_rec.specs.declared.records.Thing.{Thing}
use Rattle.game_numbers.specs.Kinds.{key_kinds}
use Rattle.game_numbers.specs.Number.{is_one_of}
use Rattle.game_numbers.specs.Specials.{locks}
use Rattle.game_numbers.specs.declared.key.Key.{Key}
use Rattle.map_level.specs.Level.{Level}
use Rattle.map_level.specs.Links.{linedefs_of, things_of}
use Rattle.game_warnings.specs.Skill.{is_in_some, is_there}
use Rattle.game_warnings.specs.declared.skill.Skill.{Skill}
use Rattle.game_warnings.specs.declared.skill.Skill.TheVariants.{Easy, Medium, Hard}
use Rattle.game_warnings.specs.declared.skill.Skills.{Skills}

-- how many linedefs want a key
abbrev pub locked : Level → Key → ℕ
locked level key = count_by (λ linedef. is_one_of (locks key) linedef.special) (linedefs_of level)

-- a thing is a key, and there for one player in a skill
abbrev pub is_key : Key → Skill → Thing → Bool
is_key key skill thing = is_one_of (key_kinds key) thing.kind && is_there skill thing

-- no thing is
abbrev pub lacks : Level → Key → Skill → Bool
lacks level key skill = not (list_any (is_key key skill) (things_of level))

-- the skills in which a key isn't there
abbrev pub lacking : Level → Key → Skills
lacking level key = record { easy = lacks level key Easy; medium = lacks level key Medium; hard = lacks level key Hard }

-- so many linedefs want a key, which isn't there in these skills
pub record IsLocked (level : Level) (key : Key) (linedefs : ℕ) (skills : Skills) : Type 0 where
  pub count : linedefs ≡ locked level key
  pub some : 0 < linedefs
  pub are : skills ≡ lacking level key
  pub lack : IsTrue (is_in_some skills)
