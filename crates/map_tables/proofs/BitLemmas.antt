-- The bit of a number among the bits of bytes.
use Rattle.std.proofs.Common.{◌≡◌, ℕ, zero, suc, ◌+◌, ◌*◌, ◌/◌, ◌%◌, ◌<◌, ◌==◌, List, [], ◌∷◌, Some, refl, ◌∙◌, arith}
use Rattle.std.specs.Int.{bit_at}
use Rattle.std.specs.List.{slice_get}
use Rattle.std.specs.Option.{option_map}
use Rattle.wad_dir.proofs.JoinedLemmas.{slice_get-append_left, slice_get-append_right}
use Rattle.map_tables.specs.Reject.{byte_bits, bits_of}

-- bit k of a byte
slice_get-byte_bits : (byte k : ℕ) → k < 8
    → slice_get (byte_bits byte) k ≡ Some (bit_at byte k == 1)
slice_get-byte_bits byte zero h = refl
slice_get-byte_bits byte (suc zero) h = refl
slice_get-byte_bits byte (suc (suc zero)) h = refl
slice_get-byte_bits byte (suc (suc (suc zero))) h = refl
slice_get-byte_bits byte (suc (suc (suc (suc zero)))) h = refl
slice_get-byte_bits byte (suc (suc (suc (suc (suc zero))))) h = refl
slice_get-byte_bits byte (suc (suc (suc (suc (suc (suc zero)))))) h = refl
slice_get-byte_bits byte (suc (suc (suc (suc (suc (suc (suc zero))))))) h = refl
slice_get-byte_bits byte (suc (suc (suc (suc (suc (suc (suc (suc k)))))))) h =
    absurd (omega (arith, h))

-- bit k of byte i
bit_of_byte : (bytes : List ℕ) (i k : ℕ) → k < 8
    → slice_get (bits_of bytes) (i * 8 + k)
    ≡ option_map (λ byte. bit_at byte k == 1) (slice_get bytes i)
bit_of_byte [] i k h = refl
bit_of_byte (b ∷ bytes) zero k h =
    let e : 0 * 8 + k ≡ k = omega arith in
    rw e (slice_get-append_left (byte_bits b) (bits_of bytes) k h ∙ slice_get-byte_bits b k h)
bit_of_byte (b ∷ bytes) (suc i) k h =
    let e : suc i * 8 + k ≡ 8 + (i * 8 + k) = omega arith in
    rw e
    (slice_get-append_right (byte_bits b) (bits_of bytes) (i * 8 + k) ∙ bit_of_byte bytes i k h)

-- bit n: bit n % 8 of byte n / 8
pub slice_get-bits_of : (bytes : List ℕ) (n : ℕ)
    → slice_get (bits_of bytes) n
    ≡ option_map (λ byte. bit_at byte (n % 8) == 1) (slice_get bytes (n / 8))
slice_get-bits_of bytes n =
    let e : n / 8 * 8 + n % 8 ≡ n = omega arith in
    let there = bit_of_byte bytes (n / 8) (n % 8) (omega arith) in
    rw e at there
