-- The bit of a level's REJECT as the released game looks it up, on numbers of 32 bits (P_CheckSight of
-- p_sight.c, linuxdoom 1.10).
use Rattle.std.specs.Prelude.{ℕ, ℤ, pos, negsuc, Bool, not, ◌==◌, List, Option, None, bit_and, unsigned_abs}
use Rattle.std.specs.Int.{w32, cast_unsigned, int_wrapping_add, int_wrapping_mul, int_bit_and, int_shl, int_shr}
use Rattle.std.specs.List.{slice_get}
use Rattle.std.specs.Option.{option_map}

-- the byte at an index of a lump; the game tests no index, so past the lump it reads what lies there
abbrev pub byte_at : List ℕ → ℤ → Option ℕ
byte_at bytes (pos i) = slice_get bytes i
byte_at bytes (negsuc i) = None

-- the number of the pair of sectors s1 and s2 among so many sectors (pnum)
abbrev pub released_pair : ℤ → ℤ → ℤ → ℤ
released_pair sectors s1 s2 = int_wrapping_add w32 (int_wrapping_mul w32 s1 sectors) s2

-- the one bit of a pair in its byte (bitnum): 1 << (pair & 7)
abbrev pub released_mask : ℤ → ℤ
released_mask pair = int_shl w32 (pos 1) (unsigned_abs (int_bit_and w32 pair (pos 7)))

-- P_CheckSight's look-up: whether that bit is set in byte pair >> 3 (bytenum)
abbrev pub released_bit : List ℕ → ℤ → Option Bool
released_bit bytes pair =
    option_map (λ byte. not (bit_and byte (cast_unsigned w32 (released_mask pair)) == 0))
    (byte_at bytes (int_shr pair 3))

-- for sectors s1 and s2
abbrev pub released_sight_bit : List ℕ → ℤ → ℤ → ℤ → Option Bool
released_sight_bit bytes sectors s1 s2 = released_bit bytes (released_pair sectors s1 s2)
