-- W21: things that no skill places (P_SpawnMapThing of p_mobj.c), and shooters of cubes without targets, or with too many (A_BrainAwake and
-- A_BrainSpit of p_enemy.c).
use Rattle.std.specs.Prelude.{◌≡◌, ◌&&◌, ◌==◌, ℕ, pos, false, nat_lt, Bool, count_by, IsSomeAnd, IsTrue}
use Rattle.std.specs.Ordering.{int_eq}
use Rattle.std.specs.List.{slice_get}
use Rattle.le_rec.specs.declared.records.Thing.{Thing}
use Rattle.game_numbers.specs.Kinds.{game_kinds}
use Rattle.game_numbers.specs.Number.{is_one_of}
use Rattle.map_level.specs.Level.{Level}
use Rattle.map_level.specs.Links.{things_of}
use Rattle.game_warnings.specs.Skill.{is_in_some, is_placed, is_there}
use Rattle.game_warnings.specs.declared.skill.Skill.{Skill}
use Rattle.game_warnings.specs.declared.skill.Skill.TheVariants.{Easy, Medium, Hard}
use Rattle.game_warnings.specs.declared.skill.Skills.{Skills}
use Rattle.game_warnings.specs.declared.thing.Targets.{Targets}

-- thing k is of a kind of the game's, and no skill places it
abbrev pub IsInNoSkill : Level → ℕ → Type 0
IsInNoSkill level k = IsSomeAnd (slice_get (things_of level) k) (λ thing. IsTrue (is_one_of game_kinds thing.kind) × (is_placed thing ≡ false))

-- how many targets (kind 87) are there for one player in a skill
abbrev pub target_count : Level → Skill → ℕ
target_count level skill = count_by (λ thing. int_eq thing.kind (pos 87) && is_there skill thing) (things_of level)

-- how many there are in each skill
pub record AreTargets (level : Level) (targets : Targets) : Type 0 where
  pub easy : targets.easy ≡ target_count level Easy
  pub medium : targets.medium ≡ target_count level Medium
  pub hard : targets.hard ≡ target_count level Hard

-- the skills in which a thing is there, and no target; and those in which more are there than the 32 that braintargets of p_enemy.c has
abbrev pub unaimed_in : Level → Thing → Skill → Bool
unaimed_in level thing skill = is_there skill thing && target_count level skill == 0

abbrev pub crowded_in : Level → Thing → Skill → Bool
crowded_in level thing skill = is_there skill thing && nat_lt 32 (target_count level skill)

abbrev pub skills_by : (Skill → Bool) → Skills
skills_by test = record { easy = test Easy; medium = test Medium; hard = test Hard }

-- a shooter (kind 89) that is there without a target in these skills, and one with too many
pub record IsUnaimed (level : Level) (skills : Skills) (thing : Thing) : Type 0 where
  pub kind : thing.kind ≡ pos 89
  pub are : skills ≡ skills_by (unaimed_in level thing)
  pub some : IsTrue (is_in_some skills)

pub record IsCrowded (level : Level) (skills : Skills) (thing : Thing) : Type 0 where
  pub kind : thing.kind ≡ pos 89
  pub are : skills ≡ skills_by (crowded_in level thing)
  pub some : IsTrue (is_in_some skills)

-- thing k is one
abbrev pub HasNoTarget : Level → ℕ → Skills → Type 0
HasNoTarget level k skills = IsSomeAnd (slice_get (things_of level) k) (IsUnaimed level skills)

abbrev pub HasManyTargets : Level → ℕ → Skills → Type 0
HasManyTargets level k skills = IsSomeAnd (slice_get (things_of level) k) (IsCrowded level skills)
