-- Which linedef each sidedef belongs to, as a list (ours).
use Rattle.std.specs.Prelude.{◌≡◌, ℕ, ℤ, ◌&&◌, List, length, Option, Some, None, nat_lt, slice_index_or, if◌then◌else◌}
use Rattle.map_level.specs.Level.{Level}
use Rattle.lens_texts.specs.Place.{names_sidedef, owner_of}

-- for each sidedef the first linedef that names it
abbrev pub AreOwners : Level → List (Option ℕ) → Type 0
AreOwners level owners = (i : ℕ) → slice_index_or owners i None ≡ owner_of level i

-- a linedef was put at the sidedef that a word of it names, where that is there
abbrev pub PutsOwner : Level → ℤ → ℕ → List (Option ℕ) → List (Option ℕ) → Type 0
PutsOwner level word linedef before after =
    (i : ℕ) → slice_index_or after i None
    ≡ if nat_lt i (length level.sidedefs.records) && names_sidedef level i word then Some linedef else slice_index_or before i None
