-- W14: linedefs whose special is none of the game's (P_CrossSpecialLine of p_spec.c, P_UseSpecialLine of p_switch.c: nothing happens).
use Rattle.std.specs.Prelude.{◌≡◌, ◌≢◌, ℕ, ℤ, pos, false, IsSomeAnd}
use Rattle.std.specs.List.{slice_get}
use Rattle.game_numbers.specs.Number.{is_one_of}
use Rattle.game_numbers.specs.Specials.{game}
use Rattle.map_level.specs.Level.{Level}
use Rattle.map_level.specs.Links.{linedefs_of}

-- a special is neither 0 nor one of the game's
abbrev pub IsNone : ℤ → Type 0
IsNone special = (special ≢ pos 0) × (is_one_of game special ≡ false)

-- that of linedef i is none
abbrev pub IsUnknownSpecial : Level → ℕ → Type 0
IsUnknownSpecial level i = IsSomeAnd (slice_get (linedefs_of level) i) (λ linedef. IsNone linedef.special)
