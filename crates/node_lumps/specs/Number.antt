-- Unsigned numbers of four bytes, the lowest byte first (LittleLong of m_swap.h).
use Rattle.std.specs.Prelude.{ℕ, ◌+◌, List, slice_index}
use Rattle.le_rec.specs.Number.{unsigned32}

-- the number at an offset
abbrev pub unsigned32_at : List ℕ → ℕ → ℕ
unsigned32_at bytes at =
    unsigned32 (slice_index bytes at) (slice_index bytes (at + 1)) (slice_index bytes (at + 2))
    (slice_index bytes (at + 3))
