-- Skills, and the things that are there in them (P_SpawnMapThing of p_mobj.c).
use Rattle.std.specs.Prelude.{◌||◌, ◌&&◌, ℤ, pos, Bool, not}
use Rattle.std.specs.Int.{int_bit_and, w16}
use Rattle.std.specs.Ordering.{int_eq}
use Rattle.le_rec.specs.declared.records.Thing.{Thing}
use Rattle.game_warnings.specs.declared.skill.Skill.{Skill}
use Rattle.game_warnings.specs.declared.skill.Skill.TheVariants.{Easy, Medium, Hard}
use Rattle.game_warnings.specs.declared.skill.Skills.{Skills}

-- the option of a skill (MTF_EASY, MTF_NORMAL and MTF_HARD of doomdata.h)
abbrev pub skill_option : Skill → ℤ
skill_option Easy = pos 1
skill_option Medium = pos 2
skill_option Hard = pos 4

-- a thing has one of some options
abbrev pub has_option : ℤ → Thing → Bool
has_option options thing = not (int_eq (int_bit_and w16 thing.options options) (pos 0))

-- some skill places a thing
abbrev pub is_placed : Thing → Bool
is_placed thing = has_option (pos 7) thing

-- a thing is there for one player in a skill: option 16 keeps it for several players
abbrev pub is_there : Skill → Thing → Bool
is_there skill thing = not (has_option (pos 16) thing) && has_option (skill_option skill) thing

-- something holds in some skill
abbrev pub is_in_some : Skills → Bool
is_in_some skills = skills.easy || skills.medium || skills.hard
