-- What the things of a kind are to a player (info.c, p_mobj.c, p_inter.c).
use Rattle.std.specs.Prelude.{ℕ, ℤ, pos, Bool, ◌&&◌, ◌||◌, List, codes, int_le, if◌then◌else◌}
use Rattle.std.specs.Ordering.{int_eq}
use Rattle.map_picture.specs.declared.class.Class.{Class}
use Rattle.map_picture.specs.declared.class.Class.TheVariants.{Start, Monster, Weapon, Key, Other}

-- a kind is one of those from one up to another
abbrev pub is_between : ℤ → ℤ → ℤ → Bool
is_between least greatest kind = int_le least kind && int_le kind greatest

-- where a player starts: players 1 to 4, and a deathmatch (P_SpawnMapThing)
abbrev pub is_start : ℤ → Bool
is_start kind = is_between (pos 1) (pos 4) kind || int_eq kind (pos 11)

-- what isn't there with -nomonsters: MF_COUNTKILL, and the lost soul (P_SpawnMapThing)
abbrev pub is_monster : ℤ → Bool
is_monster kind =
    int_eq kind (pos 7) || int_eq kind (pos 9) || int_eq kind (pos 16) || int_eq kind (pos 58) || is_between (pos 64) (pos 69) kind
    || is_between (pos 71) (pos 72) kind || int_eq kind (pos 84) || is_between (pos 3001) (pos 3006) kind

-- what P_GiveWeapon is called for (P_TouchSpecialThing): the super shotgun, and from the shotgun to the BFG9000
abbrev pub is_weapon : ℤ → Bool
is_weapon kind = int_eq kind (pos 82) || is_between (pos 2001) (pos 2006) kind

-- what P_GiveCard is called for (P_TouchSpecialThing): three cards and three skulls
abbrev pub is_key : ℤ → Bool
is_key kind = is_between (pos 5) (pos 6) kind || int_eq kind (pos 13) || is_between (pos 38) (pos 40) kind

-- the class of a kind
abbrev pub class_of : ℤ → Class
class_of kind =
    if is_start kind then Start
    else if is_monster kind then Monster
    else if is_weapon kind then Weapon
    else if is_key kind then Key
    else Other

-- the class's name in the style sheet
abbrev pub class_name : Class → List ℕ
class_name Start = codes "start"
class_name Monster = codes "monster"
class_name Weapon = codes "weapon"
class_name Key = codes "key"
class_name Other = codes "other"
