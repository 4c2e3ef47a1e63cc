-- Numbers of several bytes, and choices of a first one (ours).
use Rattle.std.specs.Prelude.{ℕ, ◌+◌, Option, Some, None, List, slice_index}
use Rattle.le_rec.specs.Number.{unsigned16, unsigned32}

-- the number of two and of four bytes at a place, the highest byte first
abbrev pub big16_at : List ℕ → ℕ → ℕ
big16_at bytes at = unsigned16 (slice_index bytes (at + 1)) (slice_index bytes at)

abbrev pub big32_at : List ℕ → ℕ → ℕ
big32_at bytes at =
    unsigned32 (slice_index bytes (at + 3)) (slice_index bytes (at + 2)) (slice_index bytes (at + 1))
    (slice_index bytes at)

-- the number of four bytes at a place, the lowest byte first
abbrev pub little32_at : List ℕ → ℕ → ℕ
little32_at bytes at =
    unsigned32 (slice_index bytes at) (slice_index bytes (at + 1)) (slice_index bytes (at + 2))
    (slice_index bytes (at + 3))

-- the first of two that is there
abbrev pub or_else : {A : Type 0} → Option A → Option A → Option A
or_else (Some x) other = Some x
or_else None other = other
