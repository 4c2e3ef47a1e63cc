-- Tags of a kind, by a mark for each tag (P_FindSectorFromLineTag of p_spec.c).
use Rattle.std.specs.Prelude.{◌≡◌, ◌↔◌, ◌⊎◌, ℕ, ℤ, Bool, false, List, length, FitsSigned, IsSomeAnd, IsTrue, slice_index_or}
use Rattle.std.specs.Int.{cast_unsigned, w16}
use Rattle.std.specs.List.{slice_get}
use Rattle.map_level.specs.Level.{Level}
use Rattle.map_level.specs.Links.{sectors_of}

-- the mark of a tag, which stands at its word without the sign
abbrev pub mark_of : List Bool → ℤ → Bool
mark_of marks tag = slice_index_or marks (cast_unsigned w16 tag) false

-- there is a mark for each tag, and those of the tags of a kind are set
pub record AreTags (is : ℤ → Type 0) (marks : List Bool) : Type 0 where
  pub long : length marks ≡ 65536
  pub told : (tag : ℤ) → FitsSigned w16 tag → IsTrue (mark_of marks tag) ↔ is tag

-- the tags of a kind were marked, too
abbrev pub AddsTags : (ℤ → Type 0) → List Bool → List Bool → Type 0
AddsTags is before after = (tag : ℤ) → FitsSigned w16 tag → IsTrue (mark_of after tag) ↔ (IsTrue (mark_of before tag) ⊎ is tag)

-- sector s has a tag
abbrev pub HasTag : Level → ℕ → ℤ → Type 0
HasTag level s tag = IsSomeAnd (slice_get (sectors_of level) s) (λ sector. sector.tag ≡ tag)

-- some sector has a tag
abbrev pub IsSectorTag : Level → ℤ → Type 0
IsSectorTag level tag = (s : ℕ) × HasTag level s tag
