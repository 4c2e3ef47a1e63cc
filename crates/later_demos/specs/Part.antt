-- What the bytes of a header belong to (ours).
use Rattle.std.specs.Prelude.{ℕ, ◌-◌, Bool, false, ◌&&◌, find, nat_le, nat_lt, if◌then◌else◌, Option, Some, None, List, [], ◌∷◌, length, slice_index}
use Rattle.later_demos.specs.Field.{comp_of, field_row, place_of}
use Rattle.later_demos.specs.Header.{players_at}
use Rattle.later_demos.specs.Layout.{signature_of}
use Rattle.later_demos.specs.declared.field.Field.{Field}
use Rattle.later_demos.specs.declared.field.Field.TheVariants.{Version, Compatibility, Skill, Episode, Map, Deathmatch, Viewpoint, MonstersRemember, VariableFriction, WeaponRecoil, AllowPushers, PlayerBobbing, Respawn, Fast, NoMonsters, DemoInsurance, RngSeed, MonsterInfighting, Dogs, DistFriend, MonsterBacking, MonsterAvoidHazards, MonsterFriction, HelpFriends, DogJumping, Monkeys, Comps, ForceOldBsp}
use Rattle.later_demos.specs.declared.layout.Engine.{Engine}
use Rattle.later_demos.specs.declared.layout.Engine.TheVariants.{Mbf21}
use Rattle.later_demos.specs.declared.layout.Layout.{Layout}
use Rattle.later_demos.specs.declared.part.Part.{Part}
use Rattle.later_demos.specs.declared.part.Part.TheVariants as part

-- all fields, in the order of their places in headers of version 200 and above
abbrev pub all_fields : List Field
all_fields =
    Version ∷ Compatibility ∷ Skill ∷ Episode ∷ Map ∷ Deathmatch ∷ Viewpoint ∷ MonstersRemember ∷ VariableFriction
    ∷ WeaponRecoil ∷ AllowPushers ∷ PlayerBobbing ∷ Respawn ∷ Fast ∷ NoMonsters ∷ DemoInsurance ∷ RngSeed
    ∷ MonsterInfighting ∷ Dogs ∷ DistFriend ∷ MonsterBacking ∷ MonsterAvoidHazards ∷ MonsterFriction ∷ HelpFriends
    ∷ DogJumping ∷ Monkeys ∷ Comps ∷ ForceOldBsp ∷ []

-- a place is one of so many from a first one on
abbrev pub is_in : ℕ → ℕ → ℕ → Bool
is_in from count place = nat_le from place && nat_lt (place - from) count

-- a field's bytes have a place
abbrev pub stands_from : Option ℕ → Field → ℕ → Bool
stands_from (Some at) field place = is_in at (field_row field).size place
stands_from None field place = false

abbrev pub stands_at : Field → ℕ → Engine → ℕ → Bool
stands_at field version engine place = stands_from (place_of field version engine) field place

-- where the compatibility options begin
abbrev pub comp_at : Engine → ℕ
comp_at Mbf21 = 33
comp_at _ = 39

abbrev pub field_or_unread : Option Field → Part
field_or_unread (Some field) = part.Field field
field_or_unread None = part.Unread

-- what the byte at a place belongs to
unfoldable pub part_of : Layout → List ℕ → ℕ → Part
part_of layout header place =
    if is_in 1 (length (signature_of layout.engine)) place then part.Signature
    else (if is_in (players_at layout header) 4 place then part.Players
    else (if is_in (comp_at layout.engine) (length (comp_of layout.engine header)) place
    then part.Comp (place - comp_at layout.engine)
    else field_or_unread (find (λ field. stands_at field (slice_index header 0) layout.engine place) all_fields)))
