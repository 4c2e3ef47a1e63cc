-- Numbers of two and of four bytes, the lowest byte first (Unofficial Doom Specs 1.666, numbers).
use Rattle.std.specs.Prelude.{ℕ, ◌+◌, ◌*◌, ◌/◌, ◌%◌, ℤ, pos, ◌-ℤ◌, List, [], ◌∷◌, take, drop, slice_index, nat_lt, if◌then◌else◌}
use Rattle.std.specs.Int.{w16, w32, cast_unsigned}

-- the unsigned number of two bytes
unfoldable pub unsigned16 : ℕ → ℕ → ℕ
unsigned16 b0 b1 = b0 + 256 * b1

-- the signed number of two bytes, in two's complement
unfoldable pub signed16 : ℕ → ℕ → ℤ
signed16 b0 b1 =
    if nat_lt b1 128 then pos (unsigned16 b0 b1) else pos (unsigned16 b0 b1) -ℤ pos 65536

-- the unsigned number of four bytes
unfoldable pub unsigned32 : ℕ → ℕ → ℕ → ℕ → ℕ
unsigned32 b0 b1 b2 b3 = b0 + 256 * b1 + 65536 * b2 + 16777216 * b3

-- the signed number of four bytes, in two's complement
unfoldable pub signed32 : ℕ → ℕ → ℕ → ℕ → ℤ
signed32 b0 b1 b2 b3 =
    if nat_lt b3 128
    then pos (unsigned32 b0 b1 b2 b3)
    else pos (unsigned32 b0 b1 b2 b3) -ℤ pos 4294967296

-- the numbers that stand at an offset of a byte list
abbrev pub unsigned16_at : List ℕ → ℕ → ℕ
unsigned16_at bytes at = unsigned16 (slice_index bytes at) (slice_index bytes (at + 1))

abbrev pub signed16_at : List ℕ → ℕ → ℤ
signed16_at bytes at = signed16 (slice_index bytes at) (slice_index bytes (at + 1))

abbrev pub signed32_at : List ℕ → ℕ → ℤ
signed32_at bytes at =
    signed32 (slice_index bytes at) (slice_index bytes (at + 1)) (slice_index bytes (at + 2))
    (slice_index bytes (at + 3))

-- the bytes of a number
abbrev pub bytes16 : ℕ → List ℕ
bytes16 n = n % 256 ∷ n / 256 % 256 ∷ []

abbrev pub signed_bytes16 : ℤ → List ℕ
signed_bytes16 z = bytes16 (cast_unsigned w16 z)

abbrev pub bytes32 : ℕ → List ℕ
bytes32 n = n % 256 ∷ n / 256 % 256 ∷ n / 65536 % 256 ∷ n / 16777216 % 256 ∷ []

abbrev pub signed_bytes32 : ℤ → List ℕ
signed_bytes32 z = bytes32 (cast_unsigned w32 z)

-- the four bytes of a magic that stand at an offset
abbrev pub magic_at : List ℕ → ℕ → List ℕ
magic_at bytes at = take 4 (drop at bytes)

-- the eight bytes of a name that stand at an offset
abbrev pub name_at : List ℕ → ℕ → List ℕ
name_at bytes at = take 8 (drop at bytes)
