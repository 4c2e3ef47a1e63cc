-- W4: linedefs that act on sectors by a tag that no sector has (P_FindSectorFromLineTag of p_spec.c).
use Rattle.std.specs.Prelude.{◌≡◌, ◌≢◌, ◌↔◌, ℕ, ℤ, pos, Bool, false, List, length, FitsSigned, IsSomeAnd, IsTrue, slice_index_or}
use Rattle.std.specs.Int.{cast_unsigned, w16}
use Rattle.std.specs.List.{slice_get}
use Rattle.map_level.specs.Level.{Level}
use Rattle.map_level.specs.Links.{linedefs_of, sectors_of}
use Rattle.map_warnings.specs.Special.{GoesByTag}

-- some sector has a tag
abbrev pub IsSectorTag : Level → ℤ → Type 0
IsSectorTag level tag =
    (s : ℕ) × IsSomeAnd (slice_get (sectors_of level) s) (λ sector. sector.tag ≡ tag)

-- a linedef's special goes by the tag to a sector, its tag isn't 0, and no sector has the tag
abbrev pub IsUntagged : Level → ℕ → Type 0
IsUntagged level i =
    IsSomeAnd (slice_get (linedefs_of level) i)
    (λ linedef. GoesByTag linedef.special × (linedef.tag ≢ pos 0) × (¬ IsSectorTag level linedef.tag))

-- for each tag, by its word without the sign, whether some sector has it
pub record AreTags (level : Level) (tags : List Bool) : Type 0 where
  pub long : length tags ≡ 65536
  pub told : (tag : ℤ) → FitsSigned w16 tag
      → IsTrue (slice_index_or tags (cast_unsigned w16 tag) false) ↔ IsSectorTag level tag
