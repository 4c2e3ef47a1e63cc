-- Numbers of 32 bits: the sign bit of numbers that were combined bit by bit, and fixed point.
use Rattle.std.proofs.Common.{ℕ, ℤ, pos, negsuc, ◌+◌, ◌*◌, ◌%◌, ◌^◌, ◌<◌, ◌≡◌, ◌*ℤ◌, ◌-ℤ◌, true, false, not, FitsSigned, of_z, w16, w32, refl, sym, ap, ◌∙◌, arith}
use Rattle.std.proofs.Math.Facts.{Fits-of_z, Fits-lt-pow, Fits-of_lt, sfits_to_z}
use Rattle.std.proofs.lemmas.Int.{ints, of_z-to_z, int_wrap_fits, wrapping_sub_is}
use Rattle.std.proofs.lemmas.Nat.{xor_lt}
use Rattle.std.proofs.lemmas.Nat.Bits.{bit_at_xor, and_pow}
use Rattle.std.specs.Prelude.{◌==◌, bit_xor}
use Rattle.std.specs.Int.{bit_at, int_bit_xor, int_shr, int_wrap, int_wrapping_sub}
use borrow.Author.Differences.{same_in, product_is}
use lib.IntN.{*ℤ_comm}
use lib.Signed.{shr_z}
use Rattle.released.specs.PointOnSide.{fixed, has_sign_bit, fixed_mul}

-- 1 where the number is below 0
abbrev pub sign : ℤ → ℕ
sign (pos n) = 0
sign (negsuc n) = 1

top_bit : (z : ℤ) → FitsSigned w32 z → bit_at (of_z w32 z) 31 ≡ sign z
top_bit (pos n) fits = omega (arith, ints)
top_bit (negsuc n) fits = omega (arith, ints)

xor_below : (a b : ℤ) → FitsSigned w32 a → FitsSigned w32 b
    → bit_xor (of_z w32 a) (of_z w32 b) < 2 ^ 32
xor_below a b f g =
    xor_lt 32 (of_z w32 a) (of_z w32 b) (Fits-lt-pow (Fits-of_z f)) (Fits-lt-pow (Fits-of_z g))

pub xor_fits : (a b : ℤ) → FitsSigned w32 a → FitsSigned w32 b → FitsSigned w32 (int_bit_xor w32 a b)
xor_fits a b f g = sfits_to_z (Fits-of_lt (xor_below a b f g))

pub sign-xor : (a b : ℤ) → FitsSigned w32 a → FitsSigned w32 b
    → sign (int_bit_xor w32 a b) ≡ (sign a + sign b) % 2
sign-xor a b f g =
    sym (top_bit (int_bit_xor w32 a b) (xor_fits a b f g))
    ∙ ap (λ n. bit_at n 31) (of_z-to_z w32 (bit_xor (of_z w32 a) (of_z w32 b)) (xor_below a b f g))
    ∙ bit_at_xor (of_z w32 a) (of_z w32 b) 31
    ∙ (λ i. (top_bit a f i + top_bit b g i) % 2)

sign_by_mask : (z : ℤ) → not (sign z * 2 ^ 31 == 0) ≡ (sign z == 1)
sign_by_mask (pos n) = refl
sign_by_mask (negsuc n) = refl

has_sign_bit_is : (z : ℤ) → FitsSigned w32 z → has_sign_bit z ≡ (sign z == 1)
has_sign_bit_is z fits =
    ap (λ n. not (n == 0)) (and_pow (of_z w32 z) 31 ∙ ap (λ b. b * 2 ^ 31) (top_bit z fits))
    ∙ sign_by_mask z

one_by_test : (z : ℤ) → (sign z == 1) ≡ true → sign z ≡ 1
one_by_test (pos n) e = cc
one_by_test (negsuc n) e = refl

zero_by_test : (z : ℤ) → (sign z == 1) ≡ false → sign z ≡ 0
zero_by_test (pos n) e = refl
zero_by_test (negsuc n) e = cc

pub set_sign : (z : ℤ) → FitsSigned w32 z → has_sign_bit z ≡ true → sign z ≡ 1
set_sign z fits e = one_by_test z (sym (has_sign_bit_is z fits) ∙ e)

pub clear_sign : (z : ℤ) → FitsSigned w32 z → has_sign_bit z ≡ false → sign z ≡ 0
clear_sign z fits e = zero_by_test z (sym (has_sign_bit_is z fits) ∙ e)

pub sign_of_four : (a b c d : ℤ) → FitsSigned w32 a → FitsSigned w32 b → FitsSigned w32 c
    → FitsSigned w32 d
    → sign (int_bit_xor w32 (int_bit_xor w32 (int_bit_xor w32 a b) c) d)
    ≡ (sign a + sign b + sign c + sign d) % 2
sign_of_four a b c d f g h k =
    let two = xor_fits a b f g in
    let three = xor_fits (int_bit_xor w32 a b) c two h in
    omega (
      arith,
      sign-xor a b f g,
      sign-xor (int_bit_xor w32 a b) c two h,
      sign-xor (int_bit_xor w32 (int_bit_xor w32 a b) c) d three k,
    )

-- ---- fixed point

sign_of_multiple : (z units : ℤ) → z ≡ fixed units → sign z ≡ sign units
sign_of_multiple (pos m) (pos n) e = refl
sign_of_multiple (pos m) (negsuc n) e = absurd (omega (arith, ints))
sign_of_multiple (negsuc m) (pos n) e = absurd (omega (arith, ints))
sign_of_multiple (negsuc m) (negsuc n) e = refl

pub sign-fixed : (z : ℤ) → sign (fixed z) ≡ sign z
sign-fixed z = sign_of_multiple (fixed z) z refl

pub fixed_fits : (z : ℤ) → FitsSigned w16 z → FitsSigned w32 (fixed z)
fixed_fits z h = omega (arith, ints)

pub fixed_difference : (a b : ℤ) → fixed a -ℤ fixed b ≡ fixed (a -ℤ b)
fixed_difference a b = omega (arith, ints)

pub difference_of_fixed : (a b : ℤ) → FitsSigned w16 a → FitsSigned w16 b
    → FitsSigned w16 (a -ℤ b) → int_wrapping_sub w32 (fixed a) (fixed b) ≡ fixed (a -ℤ b)
difference_of_fixed a b f g h =
    wrapping_sub_is w32 (fixed a) (fixed b) (fixed_fits a f) (fixed_fits b g)
    ∙ ap (int_wrap w32) (fixed_difference a b)
    ∙ int_wrap_fits w32 (fixed (a -ℤ b)) (fixed_fits (a -ℤ b) h)

shr_exact : (z q : ℤ) → z ≡ q *ℤ pos 65536 → shr_z z 65536 ≡ q
shr_exact (pos m) q e = omega (arith, ints)
shr_exact (negsuc m) q e = omega (arith, ints)

-- the whole units of a number in fixed point
pub units_of_fixed : (z : ℤ) → int_shr (fixed z) 16 ≡ z
units_of_fixed z = shr_exact (fixed z) z refl

mul_fixed : (a b : ℤ) → a *ℤ fixed b ≡ fixed (a *ℤ b)
mul_fixed a b = same_in _ _ (rw (
  (product_is a (fixed b)).0,
  (product_is a (fixed b)).1,
  (product_is (a *ℤ b) (pos 65536)).0,
  (product_is (a *ℤ b) (pos 65536)).1,
  (product_is a b).0,
  (product_is a b).1,
  (product_is b (pos 65536)).0,
  (product_is b (pos 65536)).1,
) (omega arith))

-- FixedMul of whole units and a number in fixed point is exact
pub fixed_mul_left : (a b : ℤ) → FitsSigned w32 (a *ℤ b) → fixed_mul a (fixed b) ≡ a *ℤ b
fixed_mul_left a b fits =
    ap (λ z. int_wrap w32 (int_shr z 16)) (mul_fixed a b)
    ∙ ap (int_wrap w32) (units_of_fixed (a *ℤ b))
    ∙ int_wrap_fits w32 (a *ℤ b) fits

pub fixed_mul_right : (a b : ℤ) → FitsSigned w32 (b *ℤ a) → fixed_mul (fixed a) b ≡ b *ℤ a
fixed_mul_right a b fits =
    ap (λ z. int_wrap w32 (int_shr z 16)) (*ℤ_comm (fixed a) b)
    ∙ fixed_mul_left b a fits
