-- Magics, names and boxes in a record's bytes (ours).
use Rattle.std.specs.Prelude.{ℕ, ◌+◌, ℤ, pos, List, [], ◌∷◌, ◌++◌, slice_index, slice_index_or}
use Rattle.le_rec.specs.Number.{signed16_at, signed_bytes16}

-- the bounding box at an offset: top, bottom, left, right (mapnode_t of doomdata.h)
abbrev pub box_at : List ℕ → ℕ → List ℤ
box_at bytes at =
    signed16_at bytes at ∷ signed16_at bytes (at + 2) ∷ signed16_at bytes (at + 4)
    ∷ signed16_at bytes (at + 6) ∷ []

-- the four bytes of a magic
abbrev pub magic_bytes : List ℕ → List ℕ
magic_bytes magic =
    slice_index magic 0 ∷ slice_index magic 1 ∷ slice_index magic 2 ∷ slice_index magic 3 ∷ []

-- the eight bytes of a name
abbrev pub name_bytes : List ℕ → List ℕ
name_bytes name =
    slice_index name 0 ∷ slice_index name 1 ∷ slice_index name 2 ∷ slice_index name 3
    ∷ slice_index name 4 ∷ slice_index name 5 ∷ slice_index name 6 ∷ slice_index name 7 ∷ []

-- the bytes of a bounding box
abbrev pub box_bytes : List ℤ → List ℕ
box_bytes box =
    signed_bytes16 (slice_index_or box 0 (pos 0)) ++ (signed_bytes16 (slice_index_or box 1 (pos 0))
    ++ (signed_bytes16 (slice_index_or box 2 (pos 0))
    ++ signed_bytes16 (slice_index_or box 3 (pos 0))))
