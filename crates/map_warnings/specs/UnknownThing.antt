-- W11: things of a kind that the game doesn't know (P_SpawnMapThing of p_mobj.c).
use Rattle.std.specs.Prelude.{◌≡◌, ◌≢◌, ◌||◌, ℕ, ℤ, pos, ◌<ℤ◌, Bool, false, IsSomeAnd}
use Rattle.std.specs.Int.{int_bit_and, w16}
use Rattle.std.specs.List.{slice_get}
use Rattle.le_rec.specs.declared.records.Thing.{Thing}
use Rattle.map_level.specs.Level.{Level}
use Rattle.map_level.specs.Links.{things_of}
use Rattle.map_warnings.specs.Between.{is_between}

-- the kinds of the game's things that stand in levels, 118 of them (mobjinfo of info.c)
abbrev pub is_of_the_game : ℤ → Bool
is_of_the_game kind =
    is_between (pos 5) (pos 10) kind || is_between (pos 12) (pos 89) kind || is_between (pos 2001) (pos 2008) kind
    || is_between (pos 2010) (pos 2015) kind || is_between (pos 2018) (pos 2019) kind || is_between (pos 2022) (pos 2026) kind
    || is_between (pos 2028) (pos 2028) kind || is_between (pos 2035) (pos 2035) kind || is_between (pos 2045) (pos 2049) kind
    || is_between (pos 3001) (pos 3006) kind

-- a thing is no start of a player and of no kind of the game's, and some skill places it: its options have one of the bits 1, 2, 4
pub record IsUnknown (thing : Thing) : Type 0 where
  pub no_player : pos 4 <ℤ thing.kind
  pub no_deathmatch : thing.kind ≢ pos 11
  pub no_game : is_of_the_game thing.kind ≡ false
  pub placed : int_bit_and w16 thing.options (pos 7) ≢ pos 0

-- thing k is such a thing
abbrev pub IsUnknownThing : Level → ℕ → Type 0
IsUnknownThing level k = IsSomeAnd (slice_get (things_of level) k) IsUnknown
