-- The routine of released.rt, as its code reads its numbers, is the definition.
use Rattle.std.proofs.Common.{ℕ, ℤ, pos, negsuc, ◌+◌, ◌-◌, ◌%◌, ◌^◌, ◌<◌, ◌≡◌, ◌≢◌, ◌*ℤ◌, Bool, true, false, FitsSigned, to_z, of_z, w16, w32, w64, refl, sym, ap, ◌∙◌, arith}
use Rattle.std.proofs.Math.Facts.{Fits-of_z, Fits-lt-pow}
use Rattle.std.proofs.lemmas.Int.{ints, to_z-of_z, of_z-to_z, fits_signed_mul}
use Rattle.std.proofs.lemmas.Nat.{xor_lt, and_mask}
use Rattle.std.specs.Bool.{if◌then◌else◌}
use Rattle.std.specs.Cmp.{signed_Decides}
use Rattle.std.specs.Int.{Width, int_bit_xor, int_rem_euclid, int_wrap, int_wrapping_sub}
use Rattle.std.specs.Ordering.{int_eq}
use Rattle.std.specs.Prelude.{bit_xor, bit_and, int_lt, int_le, unsigned_abs}
use lib.Signed.{shr_z, mag_shr}
use Rattle.released.specs.declared.side.FixedNode.{FixedNode}
use Rattle.map_geo.specs.declared.sides.Side.TheVariants.{Front, Back}
use Rattle.released.specs.PointOnSide.{fixed, fixed_mul, has_sign_bit, back_if, released_upright, released_level, released_slanted, released_side}

zero_word : (z : ℤ) → FitsSigned w32 z → of_z w32 z ≡ 0 → int_eq z (pos 0) ≡ true
zero_word z fits e = (signed_Decides z (pos 0)).1 (omega (arith, ints))

not_zero_by_test : (z : ℤ) (b : Bool) → int_eq z (pos 0) ≡ b → z ≢ pos 0 → b ≡ false
not_zero_by_test z true e h = absurd (h ((signed_Decides z (pos 0)).0 e))
not_zero_by_test z false e h = refl

not_zero_word : (z : ℤ) → FitsSigned w32 z → of_z w32 z ≢ 0 → int_eq z (pos 0) ≡ false
not_zero_word z fits h =
    not_zero_by_test z (int_eq z (pos 0)) refl (λ e. h (ap (of_z w32) e))

word_below : (z : ℤ) → FitsSigned w32 z → of_z w32 z < 2 ^ 32
word_below z fits = Fits-lt-pow (Fits-of_z fits)

-- numbers that are combined as words, and one after another
pub two_words : (a : ℤ) (m : ℕ) → m < 2 ^ 32
    → to_z w32 (bit_xor (of_z w32 a) m) ≡ int_bit_xor w32 a (to_z w32 m)
two_words a m h i = to_z w32 (bit_xor (of_z w32 a) (sym (of_z-to_z w32 m h) i))

pub four_words : (a b : ℤ) (m n : ℕ) → FitsSigned w32 a → FitsSigned w32 b → m < 2 ^ 32
    → n < 2 ^ 32
    → to_z w32 (bit_xor (bit_xor (bit_xor (of_z w32 a) (of_z w32 b)) m) n)
    ≡ int_bit_xor w32 (int_bit_xor w32 (int_bit_xor w32 a b) (to_z w32 m)) (to_z w32 n)
four_words a b m n f g h k =
    let two : bit_xor (of_z w32 a) (of_z w32 b) < 2 ^ 32 =
    xor_lt 32 (of_z w32 a) (of_z w32 b) (word_below a f) (word_below b g) in
    let three : bit_xor (bit_xor (of_z w32 a) (of_z w32 b)) m < 2 ^ 32 =
    xor_lt 32 (bit_xor (of_z w32 a) (of_z w32 b)) m two h in
    let e = of_z-to_z w32 (bit_xor (of_z w32 a) (of_z w32 b)) two in
    let j = of_z-to_z w32 (bit_xor (bit_xor (of_z w32 a) (of_z w32 b)) m) three in
    let p = of_z-to_z w32 m h in
    let q = of_z-to_z w32 n k in
    sym ((λ i. to_z w32 (bit_xor (of_z w32 (to_z w32 (bit_xor (e i) (p i)))) (q i)))
    ∙ (λ i. to_z w32 (bit_xor (j i) n)))

pub shr_fits : (w : Width) (z : ℤ) (m : ℕ) → FitsSigned w z → FitsSigned w (shr_z z m)
shr_fits w z m fits = record { sfits = omega (arith, mag_shr z m, fits.sfits) }

-- the low 32 bits of a number of 64
low_word_is : (z : ℤ) → FitsSigned w64 z
    → of_z w64 z % 2 ^ 32 ≡ unsigned_abs (int_rem_euclid z (pos (2 ^ 32)))
low_word_is (pos n) fits = refl
low_word_is (negsuc n) fits = omega (arith, ints)

pub low_word : (z : ℤ) → FitsSigned w64 z
    → to_z w32 (bit_and (of_z w64 z) 0xFFFF_FFFF) ≡ int_wrap w32 z
unfolding int_wrap
low_word z fits = ap (to_z w32) (and_mask (of_z w64 z) 32 ∙ low_word_is z fits)

pub product_of_words : (a b : ℤ) → FitsSigned w32 a → FitsSigned w32 b → FitsSigned w64 (a *ℤ b)
product_of_words a b f g =
    fits_signed_mul w64 a b (2 ^ 31) (2 ^ 31) (omega (arith, ints)) (omega (arith, ints))
    (omega arith)

-- a number of a node, once it is loaded
pub fixed_read : (z read stored : ℤ) → FitsSigned w16 z → FitsSigned w32 read
    → FitsSigned w32 stored → read ≡ to_z w16 (of_z w16 z)
    → stored ≡ fixed (to_z w32 (of_z w32 read)) → to_z w32 (of_z w32 stored) ≡ fixed z
fixed_read z read stored f g h e k =
    let e' = simp to_z-of_z at e in
    let k' = simp to_z-of_z at k in
    to_z-of_z w32 stored h ∙ k' ∙ ap fixed e'

-- what fits 32 bits in fixed point fits 16 bits in units
pub fits_of_fixed : (z stored : ℤ) → FitsSigned w32 stored → stored ≡ fixed z → FitsSigned w16 z
fits_of_fixed z stored fits e = omega (arith, ints)

-- a coordinate of a point
pub fixed_of_read : (z read stored : ℤ) → FitsSigned w32 read → FitsSigned w32 stored → read ≡ z
    → stored ≡ fixed (to_z w32 (of_z w32 read)) → to_z w32 (of_z w32 stored) ≡ fixed z
fixed_of_read z read stored g h e k =
    let k' = simp to_z-of_z at k in
    to_z-of_z w32 stored h ∙ k' ∙ ap fixed e

-- the fields of a node, as they are read
pub record HoldsWords (node : FixedNode) : Type 0 where
  pub x : FitsSigned w32 node.x
  pub y : FitsSigned w32 node.y
  pub dx : FitsSigned w32 node.dx
  pub dy : FitsSigned w32 node.dy

module _ (x y : ℤ) (node : FixedNode) (x_fits : FitsSigned w32 x) (y_fits : FitsSigned w32 y)
    (words : HoldsWords node) where
  upright : of_z w32 node.dx ≡ 0 → released_side x y node ≡ released_upright x node
  unfolding released_side
  upright e = rw (zero_word node.dx words.dx e) refl

  pub left_of_upright : of_z w32 node.dx ≡ 0
      → int_le (to_z w32 (of_z w32 x)) (to_z w32 (of_z w32 node.x)) ≡ true
      → (b : Bool) → int_lt (pos 0) (to_z w32 (of_z w32 node.dy)) ≡ b
      → released_side x y node ≡ back_if b
  left_of_upright e h b k =
      let f = words.x in
      let g = words.dy in
      let h' = simp to_z-of_z at h in
      let k' = simp to_z-of_z at k in
      upright e ∙ rw (h', k') refl

  pub right_of_upright : of_z w32 node.dx ≡ 0
      → int_le (to_z w32 (of_z w32 x)) (to_z w32 (of_z w32 node.x)) ≡ false
      → (b : Bool) → int_lt (to_z w32 (of_z w32 node.dy)) (pos 0) ≡ b
      → released_side x y node ≡ back_if b
  right_of_upright e h b k =
      let f = words.x in
      let g = words.dy in
      let h' = simp to_z-of_z at h in
      let k' = simp to_z-of_z at k in
      upright e ∙ rw (h', k') refl

  level : of_z w32 node.dx ≢ 0 → of_z w32 node.dy ≡ 0
      → released_side x y node ≡ released_level y node
  unfolding released_side
  level d e = rw (not_zero_word node.dx words.dx d, zero_word node.dy words.dy e) refl

  pub below_level : of_z w32 node.dx ≢ 0 → of_z w32 node.dy ≡ 0
      → int_le (to_z w32 (of_z w32 y)) (to_z w32 (of_z w32 node.y)) ≡ true
      → (b : Bool) → int_lt (to_z w32 (of_z w32 node.dx)) (pos 0) ≡ b
      → released_side x y node ≡ back_if b
  below_level d e h b k =
      let f = words.y in
      let g = words.dx in
      let h' = simp to_z-of_z at h in
      let k' = simp to_z-of_z at k in
      level d e ∙ rw (h', k') refl

  pub above_level : of_z w32 node.dx ≢ 0 → of_z w32 node.dy ≡ 0
      → int_le (to_z w32 (of_z w32 y)) (to_z w32 (of_z w32 node.y)) ≡ false
      → (b : Bool) → int_lt (pos 0) (to_z w32 (of_z w32 node.dx)) ≡ b
      → released_side x y node ≡ back_if b
  above_level d e h b k =
      let f = words.y in
      let g = words.dx in
      let h' = simp to_z-of_z at h in
      let k' = simp to_z-of_z at k in
      level d e ∙ rw (h', k') refl

  slanted : of_z w32 node.dx ≢ 0 → of_z w32 node.dy ≢ 0
      → released_side x y node
      ≡ released_slanted node (int_wrapping_sub w32 x node.x) (int_wrapping_sub w32 y node.y)
  unfolding released_side
  slanted d e = rw (not_zero_word node.dx words.dx d, not_zero_word node.dy words.dy e) refl

  -- a difference as the code has it, before it is read as a signed number
  abbrev right_word : ℕ
  right_word = (of_z w32 x + (2 ^ 32 - of_z w32 node.x)) % 2 ^ 32

  abbrev up_word : ℕ
  up_word = (of_z w32 y + (2 ^ 32 - of_z w32 node.y)) % 2 ^ 32

  right_below : right_word < 2 ^ 32
  right_below = omega arith

  up_below : up_word < 2 ^ 32
  up_below = omega arith

  abbrev four : ℤ
  four = to_z w32
      (bit_xor (bit_xor (bit_xor (of_z w32 node.dy) (of_z w32 node.dx)) right_word) up_word)

  four_is : four
      ≡ int_bit_xor w32 (int_bit_xor w32 (int_bit_xor w32 node.dy node.dx)
      (int_wrapping_sub w32 x node.x)) (int_wrapping_sub w32 y node.y)
  four_is = four_words node.dy node.dx right_word up_word words.dy words.dx right_below up_below

  pub signs_differ : of_z w32 node.dx ≢ 0 → of_z w32 node.dy ≢ 0 → (p : Bool)
      → p ≡ has_sign_bit four → p ≡ true → (b : Bool)
      → b ≡ has_sign_bit (to_z w32 (bit_xor (of_z w32 node.dy) right_word))
      → released_side x y node ≡ back_if b
  signs_differ d e p q set b two =
      let all = sym (ap has_sign_bit four_is) ∙ sym q ∙ set in
      let these = sym (ap has_sign_bit (two_words node.dy right_word right_below)) ∙ sym two in
      slanted d e ∙ rw (all, these) refl

  pub signs_agree : of_z w32 node.dx ≢ 0 → of_z w32 node.dy ≢ 0 → (p : Bool)
      → p ≡ has_sign_bit four → p ≡ false → (l r : ℤ)
      → FitsSigned w32 l → FitsSigned w32 r
      → l ≡ fixed_mul (to_z w32 (of_z w32 (shr_z (to_z w32 (of_z w32 node.dy)) 65536)))
      (int_wrapping_sub w32 x node.x)
      → r ≡ fixed_mul (int_wrapping_sub w32 y node.y)
      (to_z w32 (of_z w32 (shr_z (to_z w32 (of_z w32 node.dx)) 65536)))
      → (b : Bool) → int_lt (to_z w32 (of_z w32 r)) (to_z w32 (of_z w32 l)) ≡ b
      → released_side x y node ≡ if b then Front else Back
  signs_agree d e p q clear l r lf rf left right b k =
      let all = sym (ap has_sign_bit four_is) ∙ sym q ∙ clear in
      let dx = words.dx in
      let dy = words.dy in
      let dx_units : FitsSigned w32 (shr_z node.dx 65536) = shr_fits w32 node.dx 65536 dx in
      let dy_units : FitsSigned w32 (shr_z node.dy 65536) = shr_fits w32 node.dy 65536 dy in
      let left' = simp to_z-of_z at left in
      let right' = simp to_z-of_z at right in
      let k' = simp to_z-of_z at k in
      let compared = (λ i. int_lt (sym right' i) (sym left' i)) ∙ k' in
      slanted d e ∙ rw (all, compared) refl
