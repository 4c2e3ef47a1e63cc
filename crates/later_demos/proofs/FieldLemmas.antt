-- Names of fields are short, and compatibility options few.
use Rattle.std.proofs.Common.{ℕ, ◌≤◌, List, length, drop, length-take, lit≤, arith, slice_index}
use Rattle.later_demos.specs.Field.{comp_of, field_row}
use Rattle.later_demos.specs.Header.{options_in}
use Rattle.later_demos.specs.declared.field.Field.{Field}
use Rattle.later_demos.specs.declared.field.Field.TheVariants.{Version, Compatibility, Skill, Episode, Map, Deathmatch, Viewpoint, MonstersRemember, VariableFriction, WeaponRecoil, AllowPushers, PlayerBobbing, Respawn, Fast, NoMonsters, DemoInsurance, RngSeed, MonsterInfighting, Dogs, DistFriend, MonsterBacking, MonsterAvoidHazards, MonsterFriction, HelpFriends, DogJumping, Monkeys, Comps, ForceOldBsp}
use Rattle.later_demos.specs.declared.layout.Engine.{Engine}
use Rattle.later_demos.specs.declared.layout.Engine.TheVariants as engine

pub name_short : (field : Field) → length (field_row field).name ≤ 21
name_short Version = lit≤ tt
name_short Compatibility = lit≤ tt
name_short Skill = lit≤ tt
name_short Episode = lit≤ tt
name_short Map = lit≤ tt
name_short Deathmatch = lit≤ tt
name_short Viewpoint = lit≤ tt
name_short MonstersRemember = lit≤ tt
name_short VariableFriction = lit≤ tt
name_short WeaponRecoil = lit≤ tt
name_short AllowPushers = lit≤ tt
name_short PlayerBobbing = lit≤ tt
name_short Respawn = lit≤ tt
name_short Fast = lit≤ tt
name_short NoMonsters = lit≤ tt
name_short DemoInsurance = lit≤ tt
name_short RngSeed = lit≤ tt
name_short MonsterInfighting = lit≤ tt
name_short Dogs = lit≤ tt
name_short DistFriend = lit≤ tt
name_short MonsterBacking = lit≤ tt
name_short MonsterAvoidHazards = lit≤ tt
name_short MonsterFriction = lit≤ tt
name_short HelpFriends = lit≤ tt
name_short DogJumping = lit≤ tt
name_short Monkeys = lit≤ tt
name_short Comps = lit≤ tt
name_short ForceOldBsp = lit≤ tt

pub comp_few : (engine : Engine) (header : List ℕ) → options_in engine header ≤ 25
    → length (comp_of engine header) ≤ 32
comp_few engine.Early header few = lit≤ tt
comp_few engine.Doom header few = lit≤ tt
comp_few engine.Boom header few = lit≤ tt
comp_few engine.Mbf header few = omega (arith, length-take 32 (drop 39 header))
comp_few engine.PrBoom header few = omega (arith, length-take 32 (drop 39 header))
comp_few engine.Mbf21 header few = omega (arith, few, length-take (slice_index header 32) (drop 33 header))
