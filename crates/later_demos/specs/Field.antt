-- The fields of a header: names, sizes and places (G_WriteOptions and G_BeginRecording of g_game.c; recorded demos of dsda-doom and Woof).
use Rattle.std.specs.Prelude.{ℕ, ◌==◌, nat_le, if◌then◌else◌, Option, Some, None, List, [], codes, take, drop, slice_index}
use Rattle.std.specs.Option.{option_map}
use Rattle.later_demos.specs.Numbers.{big16_at, big32_at}
use Rattle.later_demos.specs.declared.field.Field.{Field}
use Rattle.later_demos.specs.declared.field.Field.TheVariants.{Version, Compatibility, Skill, Episode, Map, Deathmatch, Viewpoint, MonstersRemember, VariableFriction, WeaponRecoil, AllowPushers, PlayerBobbing, Respawn, Fast, NoMonsters, DemoInsurance, RngSeed, MonsterInfighting, Dogs, DistFriend, MonsterBacking, MonsterAvoidHazards, MonsterFriction, HelpFriends, DogJumping, Monkeys, Comps, ForceOldBsp}
use Rattle.later_demos.specs.declared.field.FieldRow.{FieldRow}
use Rattle.later_demos.specs.declared.layout.Engine.{Engine}
use Rattle.later_demos.specs.declared.layout.Engine.TheVariants as engine
use Rattle.later_demos.specs.declared.layout.Layout.{Layout}

-- A row of the table of fields: the name, the bytes of the number, the place in headers of Doom, the place in those of Boom, MBF and
-- PrBoom with the first of their versions that has it, and the place in those of MBF21.
pub record Row : Type 0 where
  pub name : List ℕ
  pub size : ℕ
  pub doom : Option ℕ
  pub boom : Option ℕ
  pub since : ℕ
  pub mbf21 : Option ℕ

abbrev row : List ℕ → ℕ → Option ℕ → Option ℕ → ℕ → Option ℕ → Row
row name size doom boom since mbf21 = record { name = name; size = size; doom = doom; boom = boom; since = since; mbf21 = mbf21 }

abbrev pub view_of : FieldRow → Row
view_of r = record { name = r.name.now; size = r.size; doom = r.doom; boom = r.boom; since = r.since; mbf21 = r.mbf21 }

-- the table of fields
abbrev pub field_row : Field → Row
field_row Version = row (codes "version") 1 (Some 0) (Some 0) 0 (Some 0)
field_row Compatibility = row (codes "compatibility") 1 None (Some 7) 0 None
field_row Skill = row (codes "skill") 1 (Some 1) (Some 8) 0 (Some 7)
field_row Episode = row (codes "episode") 1 (Some 2) (Some 9) 0 (Some 8)
field_row Map = row (codes "map") 1 (Some 3) (Some 10) 0 (Some 9)
field_row Deathmatch = row (codes "deathmatch") 1 (Some 4) (Some 11) 0 (Some 10)
field_row Viewpoint = row (codes "viewpoint") 1 (Some 8) (Some 12) 0 (Some 11)
field_row MonstersRemember = row (codes "monsters_remember") 1 None (Some 13) 0 (Some 12)
field_row VariableFriction = row (codes "variable_friction") 1 None (Some 14) 0 None
field_row WeaponRecoil = row (codes "weapon_recoil") 1 None (Some 15) 0 (Some 13)
field_row AllowPushers = row (codes "allow_pushers") 1 None (Some 16) 0 None
field_row PlayerBobbing = row (codes "player_bobbing") 1 None (Some 18) 0 (Some 14)
field_row Respawn = row (codes "respawn") 1 (Some 5) (Some 19) 0 (Some 15)
field_row Fast = row (codes "fast") 1 (Some 6) (Some 20) 0 (Some 16)
field_row NoMonsters = row (codes "nomonsters") 1 (Some 7) (Some 21) 0 (Some 17)
field_row DemoInsurance = row (codes "demo_insurance") 1 None (Some 22) 0 None
field_row RngSeed = row (codes "rngseed") 4 None (Some 23) 0 (Some 18)
field_row MonsterInfighting = row (codes "monster_infighting") 1 None (Some 27) 203 (Some 22)
field_row Dogs = row (codes "dogs") 1 None (Some 28) 203 (Some 23)
field_row DistFriend = row (codes "distfriend") 2 None (Some 31) 203 (Some 24)
field_row MonsterBacking = row (codes "monster_backing") 1 None (Some 33) 203 (Some 26)
field_row MonsterAvoidHazards = row (codes "monster_avoid_hazards") 1 None (Some 34) 203 (Some 27)
field_row MonsterFriction = row (codes "monster_friction") 1 None (Some 35) 203 (Some 28)
field_row HelpFriends = row (codes "help_friends") 1 None (Some 36) 203 (Some 29)
field_row DogJumping = row (codes "dog_jumping") 1 None (Some 37) 203 (Some 30)
field_row Monkeys = row (codes "monkeys") 1 None (Some 38) 203 (Some 31)
field_row Comps = row (codes "comps") 1 None None 0 (Some 32)
field_row ForceOldBsp = row (codes "force_old_bsp") 1 None (Some 71) 210 None

-- the place of a field in the headers of a version
abbrev pub place_by : Engine → ℕ → Row → Option ℕ
place_by engine.Early version row = row.doom
place_by engine.Doom version row = row.doom
place_by engine.Mbf21 version row = row.mbf21
place_by _ version row = if nat_le row.since version then row.boom else None

abbrev pub place_of : Field → ℕ → Engine → Option ℕ
place_of field version engine = place_by engine version (field_row field)

-- the number of one, two or four bytes at a place
abbrev pub number_at : ℕ → List ℕ → ℕ → ℕ
number_at size bytes at =
    if size == 1 then slice_index bytes at
    else (if size == 2 then big16_at bytes at else big32_at bytes at)

-- the number of a field in a header
abbrev pub number_in : Field → Layout → List ℕ → Option ℕ
number_in field layout header =
    option_map (λ at. number_at (field_row field).size header at)
    (place_of field (slice_index header 0) layout.engine)

-- the compatibility options: 32 of MBF and PrBoom, of MBF21 as many as it counts
abbrev pub comp_of : Engine → List ℕ → List ℕ
comp_of engine.Mbf header = take 32 (drop 39 header)
comp_of engine.PrBoom header = take 32 (drop 39 header)
comp_of engine.Mbf21 header = take (slice_index header 32) (drop 33 header)
comp_of _ header = []
