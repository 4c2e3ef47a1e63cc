-- Linedefs with a special (P_CrossSpecialLine of p_spec.c and P_UseSpecialLine of p_switch.c do nothing for 0).
use Rattle.std.specs.Prelude.{◌≢◌, ℕ, pos, IsSomeAnd}
use Rattle.std.specs.List.{slice_get}
use Rattle.map_level.specs.Level.{Level}
use Rattle.map_level.specs.Links.{linedefs_of}

-- linedef i has a special
abbrev pub HasSpecial : Level → ℕ → Type 0
HasSpecial level i = IsSomeAnd (slice_get (linedefs_of level) i) (λ linedef. linedef.special ≢ pos 0)
