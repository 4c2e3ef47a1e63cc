-- A number for the ends of a linedef, by which those at the same places are found (ours).
use Rattle.std.specs.Prelude.{◌≡◌, ◌≢◌, ℕ, ◌+◌, ◌*◌, ◌^◌, ◌<◌, min, max, List, AllPairs, FitsSigned, Option, Some, MatchOption, IsSomeAnd, option_to_list}
use Rattle.std.specs.List.{flat_map}
use Rattle.std.specs.Option.{option_map}
use Rattle.std.specs.Int.{cast_unsigned, w16}
use Rattle.std.specs.Ordering.{nat_cmp}
use Rattle.std.specs.BTreeMap.{get, BTreeMap}
use Rattle.le_rec.specs.declared.records.LineDef.{LineDef}
use Rattle.le_rec.specs.declared.records.Vertex.{Vertex}
use Rattle.map_level.specs.Level.{Level}
use Rattle.map_level.specs.Links.{linedefs_of}
use Rattle.map_warnings.specs.declared.twins.Ends.{Ends}
use Rattle.map_warnings.specs.Twin.{ends_of, ends_of_linedef}

-- a place as a number of 32 bits
abbrev pub place_number : Vertex → ℕ
place_number v = cast_unsigned w16 v.x * 65536 + cast_unsigned w16 v.y

-- two places as a number, whichever comes first
abbrev pub ends_key : Ends → ℕ
ends_key ends =
    min (place_number ends.from) (place_number ends.to) * 2 ^ 32 + max (place_number ends.from) (place_number ends.to)

-- a vertex's coordinates have 16 bits
abbrev pub IsShort : Vertex → Type 0
IsShort v = FitsSigned w16 v.x × FitsSigned w16 v.y

abbrev pub AreShortEnds : Ends → Type 0
AreShortEnds ends = IsShort ends.from × IsShort ends.to

-- the number of a linedef's ends
abbrev pub key_at : Level → ℕ → Option ℕ
key_at level i = option_map ends_key (ends_of level i)

-- the number of a linedef's ends, where they are there
abbrev pub keys_of_linedef : Level → LineDef → List ℕ
keys_of_linedef level linedef = option_to_list (option_map ends_key (ends_of_linedef level linedef))

-- those of all linedefs
abbrev pub keys_of : Level → List ℕ
keys_of level = flat_map (keys_of_linedef level) (linedefs_of level)

-- no number stands twice
abbrev pub AreApart : List ℕ → Type 0
AreApart numbers = AllPairs (λ a b. a ≢ b) numbers

-- a linedef is the first whose ends have a number
pub record IsFirstOf (level : Level) (key e : ℕ) : Type 0 where
  pub there : key_at level e ≡ Some key
  pub short : IsSomeAnd (ends_of level e) AreShortEnds
  pub first : (j : ℕ) → j < e → key_at level j ≢ Some key

-- for the numbers of the ends of the linedefs below i the first that has each
pub record AreFirsts (level : Level) (i : ℕ) (firsts : BTreeMap ℕ ℕ) : Type 0 where
  pub each : (key : ℕ)
      → MatchOption (get nat_cmp firsts key) ((j : ℕ) → j < i → key_at level j ≢ Some key)
      (λ e. (e < i) × IsFirstOf level key e)
