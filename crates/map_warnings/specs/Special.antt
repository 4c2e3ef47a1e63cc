-- Specials of linedefs, by what they do (p_spec.c, p_switch.c).
use Rattle.std.specs.Prelude.{◌||◌, ℤ, pos, Bool, IsTrue}
use Rattle.map_warnings.specs.Between.{is_between}

-- it acts on the sectors that have the linedef's tag (P_FindSectorFromLineTag): the game's specials but doors that are opened by hand, exits,
-- teleporters and scrolling
abbrev pub is_tagged : ℤ → Bool
is_tagged special =
    is_between (pos 2) (pos 10) special || is_between (pos 12) (pos 25) special || is_between (pos 29) (pos 30) special
    || is_between (pos 35) (pos 38) special || is_between (pos 40) (pos 47) special || is_between (pos 49) (pos 50) special
    || is_between (pos 53) (pos 77) special || is_between (pos 79) (pos 84) special || is_between (pos 86) (pos 96) special
    || is_between (pos 98) (pos 116) special || is_between (pos 119) (pos 123) special || is_between (pos 127) (pos 141) special

-- it takes to a thing in a sector that has the linedef's tag (EV_Teleport)
abbrev pub is_teleport : ℤ → Bool
is_teleport special =
    is_between (pos 39) (pos 39) special || is_between (pos 97) (pos 97) special || is_between (pos 125) (pos 126) special

-- it goes by the linedef's tag to a sector
abbrev pub GoesByTag : ℤ → Type 0
GoesByTag special = IsTrue (is_tagged special || is_teleport special)
