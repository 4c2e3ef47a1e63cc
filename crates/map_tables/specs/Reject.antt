-- A level's REJECT (P_CheckSight of p_sight.c).
use Rattle.std.specs.Prelude.{ℕ, ◌+◌, ◌*◌, Bool, ◌==◌, List, map, Option}
use Rattle.std.specs.Int.{bit_at}
use Rattle.std.specs.List.{flat_map, range_with_len, slice_get}

-- the bits of a byte, from the lowest up
abbrev pub byte_bits : ℕ → List Bool
byte_bits byte = map (λ k. bit_at byte k == 1) (range_with_len 0 8)

-- the bits of bytes, one byte after another
abbrev pub bits_of : List ℕ → List Bool
bits_of bytes = flat_map byte_bits bytes

-- a lump's bits and the number of sectors
pub record Reject : Type 0 where
  pub bits : List Bool
  pub sectors : ℕ

-- the bit of sector a, who looks, and sector b, unknown past the last
-- one: set where sight is refused
abbrev pub sight_bit : Reject → ℕ → ℕ → Option Bool
sight_bit reject a b = slice_get reject.bits (a * reject.sectors + b)
