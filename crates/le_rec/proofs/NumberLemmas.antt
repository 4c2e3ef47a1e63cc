-- Facts about numbers of two and four bytes.
use Rattle.std.proofs.Common.{◌≡◌, ℕ, ◌+◌, ◌*◌, ◌<◌, ◌/◌, ◌%◌, List, ◌∷◌, ◌++◌, [], ap, sym, ◌∙◌, ◌≤◌, arith, ℤ, ◌-◌, take, drop, length, slice_index}
use Rattle.std.proofs.lemmas.Int.{ints}
use Rattle.std.proofs.lemmas.Bool.Decides.{nat_tests}
use Rattle.std.specs.Prelude.{FitsSigned}
use Rattle.byteorder.specs.Endian.{little_number}
use Rattle.std.proofs.lemmas.List.{append-nil, drop_at, drop-drop, get_or-drop, length-drop, length-take, take_rest}
use Rattle.std.proofs.Math.ListN.{drop_of_length-le}
use borrow.Rule.Slice.PartMut.{put_mid}
use Rattle.std.proofs.Math.Nat.{add-zero}
use Rattle.std.specs.Int.{w16, w32, cast_unsigned, cast_signed}
use Rattle.le_rec.specs.Number.{unsigned16, signed16, unsigned32, signed32, bytes16, bytes32, signed_bytes16, signed_bytes32}

-- the number that was read, as a signed one
pub cast_signed-unsigned16 : (b0 b1 : ℕ) → b0 < 256 → b1 < 256
    → cast_signed w16 (b0 + 256 * (b1 + 256 * 0)) ≡ signed16 b0 b1
unfolding unsigned16 signed16
cast_signed-unsigned16 b0 b1 h0 h1 = grind (arith, ints, nat_tests)

pub cast_signed-unsigned32 : (b0 b1 b2 b3 : ℕ) → b0 < 256 → b1 < 256 → b2 < 256 → b3 < 256
    → cast_signed w32 (b0 + 256 * (b1 + 256 * (b2 + 256 * (b3 + 256 * 0)))) ≡ signed32 b0 b1 b2 b3
unfolding unsigned32 signed32
cast_signed-unsigned32 b0 b1 b2 b3 h0 h1 h2 h3 = grind (arith, ints, nat_tests)

-- what a number's bytes read as
pub unsigned16-bytes16 : (n : ℕ) → n < 65536 → unsigned16 (n % 256) (n / 256 % 256) ≡ n
unfolding unsigned16
unsigned16-bytes16 n h = omega arith

pub unsigned32-bytes32 : (n : ℕ) → n < 4294967296
    → unsigned32 (n % 256) (n / 256 % 256) (n / 65536 % 256) (n / 16777216 % 256) ≡ n
unfolding unsigned32
unsigned32-bytes32 n h = omega arith

pub signed16-bytes16 : (z : ℤ) → FitsSigned w16 z
    → signed16 (cast_unsigned w16 z % 256) (cast_unsigned w16 z / 256 % 256) ≡ z
unfolding unsigned16 signed16
signed16-bytes16 z f = grind (arith, ints, nat_tests)

pub signed32-bytes32 : (z : ℤ) → FitsSigned w32 z
    → signed32 (cast_unsigned w32 z % 256) (cast_unsigned w32 z / 256 % 256)
    (cast_unsigned w32 z / 65536 % 256) (cast_unsigned w32 z / 16777216 % 256)
    ≡ z
unfolding unsigned32 signed32
signed32-bytes32 z f = grind (arith, ints, nat_tests)

-- the bytes of what was read
pub bytes16-unsigned16 : (b0 b1 : ℕ) → b0 < 256 → b1 < 256
    → bytes16 (unsigned16 b0 b1) ≡ b0 ∷ b1 ∷ []
unfolding unsigned16
bytes16-unsigned16 b0 b1 h0 h1 =
    let low : (b0 + 256 * b1) % 256 ≡ b0 = omega arith in
    let high : (b0 + 256 * b1) / 256 % 256 ≡ b1 = omega arith in
    cc

pub bytes32-unsigned32 : (b0 b1 b2 b3 : ℕ) → b0 < 256 → b1 < 256 → b2 < 256 → b3 < 256
    → bytes32 (unsigned32 b0 b1 b2 b3) ≡ b0 ∷ b1 ∷ b2 ∷ b3 ∷ []
unfolding unsigned32
bytes32-unsigned32 b0 b1 b2 b3 h0 h1 h2 h3 =
    let n : ℕ = unsigned32 b0 b1 b2 b3 in
    let first : n % 256 ≡ b0 = omega arith in
    let second : n / 256 % 256 ≡ b1 = omega arith in
    let third : n / 65536 % 256 ≡ b2 = omega arith in
    let fourth : n / 16777216 % 256 ≡ b3 = omega arith in
    cc

-- a signed number's bits are the unsigned number of its bytes
cast_unsigned-signed16 : (b0 b1 : ℕ) → b0 < 256 → b1 < 256
    → cast_unsigned w16 (signed16 b0 b1) ≡ unsigned16 b0 b1
unfolding unsigned16 signed16
cast_unsigned-signed16 b0 b1 h0 h1 = grind (arith, ints, nat_tests)

cast_unsigned-signed32 : (b0 b1 b2 b3 : ℕ) → b0 < 256 → b1 < 256 → b2 < 256 → b3 < 256
    → cast_unsigned w32 (signed32 b0 b1 b2 b3) ≡ unsigned32 b0 b1 b2 b3
unfolding unsigned32 signed32
cast_unsigned-signed32 b0 b1 b2 b3 h0 h1 h2 h3 = grind (arith, ints, nat_tests)

pub signed_bytes16-signed16 : (b0 b1 : ℕ) → b0 < 256 → b1 < 256
    → signed_bytes16 (signed16 b0 b1) ≡ b0 ∷ b1 ∷ []
signed_bytes16-signed16 b0 b1 h0 h1 =
    rw (cast_unsigned-signed16 b0 b1 h0 h1) (bytes16-unsigned16 b0 b1 h0 h1)

pub signed_bytes32-signed32 : (b0 b1 b2 b3 : ℕ) → b0 < 256 → b1 < 256 → b2 < 256 → b3 < 256
    → signed_bytes32 (signed32 b0 b1 b2 b3) ≡ b0 ∷ b1 ∷ b2 ∷ b3 ∷ []
signed_bytes32-signed32 b0 b1 b2 b3 h0 h1 h2 h3 =
    rw (cast_unsigned-signed32 b0 b1 b2 b3 h0 h1 h2 h3) (bytes32-unsigned32 b0 b1 b2 b3 h0 h1 h2 h3)

-- a signed number that was read fits
pub FitsSigned-signed16 : (b0 b1 : ℕ) → b0 < 256 → b1 < 256 → FitsSigned w16 (signed16 b0 b1)
unfolding unsigned16 signed16
FitsSigned-signed16 b0 b1 h0 h1 = grind (arith, ints, nat_tests)

pub FitsSigned-signed32 : (b0 b1 b2 b3 : ℕ) → b0 < 256 → b1 < 256 → b2 < 256 → b3 < 256
    → FitsSigned w32 (signed32 b0 b1 b2 b3)
unfolding unsigned32 signed32
FitsSigned-signed32 b0 b1 b2 b3 h0 h1 h2 h3 = grind (arith, ints, nat_tests)

pub unsigned16-lt : (b0 b1 : ℕ) → b0 < 256 → b1 < 256 → unsigned16 b0 b1 < 65536
unfolding unsigned16
unsigned16-lt b0 b1 h0 h1 = omega arith

-- behind bytes that are put at the front of the slice from an offset on stands what stood there
pub drop-put : (bytes back : List ℕ) (at n : ℕ) → at + n ≤ length bytes
    → drop n back ≡ drop n (take (length bytes - at) (drop at bytes))
    → drop (at + n) (put_mid at (length bytes - at) bytes back) ≡ drop (at + n) bytes
drop-put bytes back at n fits kept =
    let past = drop (length bytes - at) (drop at bytes) in
    let front_end : length (take at bytes) ≡ at = simp length-take (omega arith) in
    let none : past ≡ [] = drop_of_length-le (drop at bytes) (simp length-drop (omega arith)) in
    sym (drop-drop n at (put_mid at (length bytes - at) bytes back))
    ∙ ap (drop n) (drop_at (take at bytes) (back ++ past) at front_end
    ∙ ap (λ rest. back ++ rest) none ∙ append-nil back)
    ∙ kept ∙ ap (drop n) (take_rest bytes at) ∙ drop-drop n at bytes

-- lists that agree from an offset on agree from a later one on
pub drop-later : {X : Type 0} (xs ys : List X) (at later : ℕ) → at ≤ later
    → drop at xs ≡ drop at ys → drop later xs ≡ drop later ys
drop-later xs ys at later h same =
    let between : later ≡ at + (later - at) = omega arith in
    ap (λ n. drop n xs) between ∙ sym (drop-drop (later - at) at xs)
    ∙ ap (drop (later - at)) same
    ∙ drop-drop (later - at) at ys ∙ ap (λ n. drop n ys) (sym between)

-- a slice from an offset on reads as the number there
pub little_number2-slice : (bytes : List ℕ) (at : ℕ)
    → little_number 2 (take (length bytes - at) (drop at bytes))
    ≡ slice_index bytes at + 256 * (slice_index bytes (at + 1) + 256 * 0)
little_number2-slice bytes at = simp (take_rest, get_or-drop, add-zero)

pub little_number4-slice : (bytes : List ℕ) (at : ℕ)
    → little_number 4 (take (length bytes - at) (drop at bytes))
    ≡ slice_index bytes at
    + 256 * (slice_index bytes (at + 1)
    + 256 * (slice_index bytes (at + 2) + 256 * (slice_index bytes (at + 3) + 256 * 0)))
little_number4-slice bytes at = simp (take_rest, get_or-drop, add-zero)
