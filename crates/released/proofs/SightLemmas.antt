-- The bit that the released game looks up is the sight bit as defined.
use Rattle.std.proofs.Common.{◌≡◌, ℕ, ℤ, pos, zero, suc, ◌+◌, ◌*◌, ◌/◌, ◌%◌, ◌^◌, ◌<◌, ◌==◌, not, List, Some, FitsSigned, to_z, of_z, w32, refl, sym, ap, ◌∙◌, arith}
use Rattle.std.proofs.lemmas.Int.{to_z_pos}
use Rattle.std.proofs.lemmas.Nat.{and_mask}
use Rattle.std.proofs.lemmas.Nat.Bits.{and_pow, bit_at-lt}
use Rattle.std.specs.Int.{bit_at, int_bit_and, int_shl, int_shr, int_wrapping_add}
use Rattle.std.specs.List.{slice_get}
use Rattle.std.specs.Option.{option_map}
use Rattle.std.specs.Prelude.{bit_and, unsigned_abs}
use lib.Signed.{shr_z, mag_shr}
use Rattle.released.specs.Laws.{ReleasedBitIsSightBit}
use Rattle.map_tables.specs.Reject.{bits_of}
use Rattle.released.specs.CheckSight.{byte_at, released_pair, released_mask, released_bit}
use Rattle.map_tables.proofs.BitLemmas.{slice_get-bits_of}

-- one of the eight bits of a byte, as a mask
mask : (k : ℕ) → k < 8 → 2 ^ k < 2 ^ 8
mask zero h = omega arith
mask (suc zero) h = omega arith
mask (suc (suc zero)) h = omega arith
mask (suc (suc (suc zero))) h = omega arith
mask (suc (suc (suc (suc zero)))) h = omega arith
mask (suc (suc (suc (suc (suc zero))))) h = omega arith
mask (suc (suc (suc (suc (suc (suc zero)))))) h = omega arith
mask (suc (suc (suc (suc (suc (suc (suc zero))))))) h = omega arith
mask (suc (suc (suc (suc (suc (suc (suc (suc k)))))))) h = absurd (omega (arith, h))

pair_is : (sectors a b : ℕ) → a * sectors + b < 2 ^ 31
    → released_pair (pos sectors) (pos a) (pos b) ≡ pos (a * sectors + b)
pair_is sectors a b h =
    let product : a * sectors % 2 ^ 32 ≡ a * sectors = omega arith in
    let sum : (a * sectors + b) % 2 ^ 32 ≡ a * sectors + b = omega arith in
    ap (λ m. int_wrapping_add w32 m (pos b))
    (ap (to_z w32) product ∙ to_z_pos w32 (a * sectors) (omega arith))
    ∙ ap (to_z w32) sum
    ∙ to_z_pos w32 (a * sectors + b) h

by_bit : (j k : ℕ) → j < 2 → k < 8 → not (j * 2 ^ k == 0) ≡ (j == 1)
by_bit zero k small h =
    let e : 0 * 2 ^ k ≡ 0 = omega arith in ap (λ n. not (n == 0)) e
by_bit (suc zero) zero small h = refl
by_bit (suc zero) (suc zero) small h = refl
by_bit (suc zero) (suc (suc zero)) small h = refl
by_bit (suc zero) (suc (suc (suc zero))) small h = refl
by_bit (suc zero) (suc (suc (suc (suc zero)))) small h = refl
by_bit (suc zero) (suc (suc (suc (suc (suc zero))))) small h = refl
by_bit (suc zero) (suc (suc (suc (suc (suc (suc zero)))))) small h = refl
by_bit (suc zero) (suc (suc (suc (suc (suc (suc (suc zero))))))) small h = refl
by_bit (suc zero) (suc (suc (suc (suc (suc (suc (suc (suc k)))))))) small h =
    absurd (omega (arith, h))
by_bit (suc (suc j)) k small h = absurd (omega arith)

low_three : (n : ℕ) → n < 2 ^ 31 → int_bit_and w32 (pos n) (pos 7) ≡ pos (n % 8)
low_three n h = ap (to_z w32) (and_mask n 3) ∙ to_z_pos w32 (n % 8) (omega arith)

shifted : (k : ℕ) → k < 8 → int_shl w32 (pos 1) k ≡ pos (2 ^ k)
shifted k h =
    let e : 1 * 2 ^ k % 2 ^ 32 ≡ 2 ^ k = omega (arith, mask k h) in
    ap (to_z w32) e ∙ to_z_pos w32 (2 ^ k) (omega (arith, mask k h))

-- the mask of a pair's bit, and what it leaves of a byte
mask_of_pair : (n : ℕ) → n < 2 ^ 31 → released_mask (pos n) ≡ pos (2 ^ (n % 8))
mask_of_pair n h =
    ap (λ z. int_shl w32 (pos 1) (unsigned_abs z)) (low_three n h) ∙ shifted (n % 8) (omega arith)

masked : (byte n : ℕ) → n < 2 ^ 31
    → not (bit_and byte (of_z w32 (released_mask (pos n))) == 0) ≡ (bit_at byte (n % 8) == 1)
masked byte n h =
    ap (λ m. not (bit_and byte (of_z w32 m) == 0)) (mask_of_pair n h)
    ∙ ap (λ m. not (m == 0)) (and_pow byte (n % 8))
    ∙ by_bit (bit_at byte (n % 8)) (n % 8) (bit_at-lt byte (n % 8)) (omega arith)

bit_here : (bytes : List ℕ) (n : ℕ) → n < 2 ^ 31
    → released_bit bytes (pos n) ≡ slice_get (bits_of bytes) n
bit_here bytes n h =
    (λ i. option_map (λ byte. masked byte n h i) (slice_get bytes (n / 8)))
    ∙ sym (slice_get-bits_of bytes n)

pub released_bit_is_sight_bit : ReleasedBitIsSightBit
released_bit_is_sight_bit bytes sectors a b h =
    ap (released_bit bytes) (pair_is sectors a b h) ∙ bit_here bytes (a * sectors + b) h

-- ---- as the code reads its numbers

pub shift_fits : (z : ℤ) (m : ℕ) → FitsSigned w32 z → FitsSigned w32 (shr_z z m)
shift_fits z m fits = record { sfits = omega (arith, mag_shr z m, fits.sfits) }

pub bit_of_read_byte : (bytes : List ℕ) (pair wide mask : ℤ) (byte : ℕ)
    → Some byte ≡ byte_at bytes (int_shr pair 3) → wide ≡ pos byte → mask ≡ released_mask pair
    → Some (not (bit_and (of_z w32 wide) (of_z w32 mask) == 0)) ≡ released_bit bytes pair
bit_of_read_byte bytes pair wide mask byte there w m =
    (λ i. Some (not (bit_and (of_z w32 (w i)) (of_z w32 (m i)) == 0)))
    ∙ ap (option_map (λ byte. not (bit_and byte (of_z w32 (released_mask pair)) == 0))) there
