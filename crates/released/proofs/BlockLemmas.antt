-- The block of the released game is the one as defined.
use Rattle.std.proofs.Common.{◌≡◌, ◌↔◌, ℕ, ◌+◌, ◌*◌, ◌/◌, ◌%◌, ◌^◌, ◌<◌, ◌≤◌, ℤ, pos, negsuc, ◌-ℤ◌, ◌≤ℤ◌, ◌<ℤ◌, to_z, w32, refl, sym, ap, ◌∙◌, subst, arith}
use Rattle.std.proofs.lemmas.Bool.Decides.{nat_tests}
use Rattle.std.proofs.lemmas.Int.{ints, wrapping_sub_is}
use Rattle.std.specs.Int.{int_shr, int_wrap, int_wrapping_sub}
use lib.Signed.{shr_z}
use Rattle.released.specs.Laws.{ReleasedIsBlock, ReleasedIsNoBlock, BlockWraps, BlockWrapsBelow}
use Rattle.released.specs.PointOnSide.{fixed}
use Rattle.released.proofs.WordLemmas.{difference_of_fixed, fixed_difference, fixed_fits}

-- by the number that is shifted
block_by_shift : (shifted d : ℤ) (k : ℕ) → shifted ≡ fixed d
    → (shr_z shifted 8388608 ≡ pos k) ↔ ((pos (128 * k) ≤ℤ d) × (d <ℤ pos (128 * k + 128)))
block_by_shift (pos m) d k e = (
  λ is. let quotient : m / 8388608 ≡ k = omega (arith, ints) in (omega (arith, ints), omega (arith, ints)),
  λ between. omega (arith, ints, between.0, between.1),
)
block_by_shift (negsuc m) d k e = (
  λ is. absurd (omega (arith, ints)),
  λ between. absurd (omega (arith, ints, between.0, between.1)),
)

pub released_is_block : ReleasedIsBlock
released_is_block origin z k origin_fits z_fits fits =
    let difference = difference_of_fixed z origin z_fits origin_fits fits in
    let by_shift = block_by_shift (fixed (z -ℤ origin)) (z -ℤ origin) k refl in (
      λ e.
          let between = by_shift.0 (sym (ap (λ d. int_shr d 23) difference) ∙ e) in
          record { first = omega (arith, ints, between.0); last = omega (arith, ints, between.1) },
      λ along.
          ap (λ d. int_shr d 23) difference
          ∙ by_shift.1 (omega (arith, ints, along.first), omega (arith, ints, along.last)),
    )

-- ---- where the difference wraps

negative_word : (n : ℕ) → 2 ^ 31 ≤ n → n < 2 ^ 32 → to_z w32 n <ℤ pos 0
negative_word n least most = grind (arith, ints, nat_tests)

wrapped_word : (z : ℤ) (n : ℕ) → z ≡ pos n → 2 ^ 31 ≤ n → n < 2 ^ 32
    → int_wrap w32 z <ℤ pos 0
unfolding int_wrap
wrapped_word z n e least most =
    let small : n % 2 ^ 32 ≡ n = omega arith in
    subst (λ z. int_wrap w32 z <ℤ pos 0) (sym e)
    (subst (λ m. to_z w32 m <ℤ pos 0) (sym small) (negative_word n least most))

shifted_below : (z : ℤ) → z <ℤ pos 0 → shr_z z 8388608 <ℤ pos 0
shifted_below (pos m) below = absurd (omega (arith, ints, below))
shifted_below (negsuc m) below = omega (arith, ints)

distance : (d : ℤ) → pos 32768 ≤ℤ d → (n : ℕ) × (d ≡ pos n) × (32768 ≤ n)
distance (pos n) h = (n, refl, omega (arith, ints, h))
distance (negsuc n) h = absurd (omega (arith, ints, h))

pub released_is_no_block : ReleasedIsNoBlock
released_is_no_block origin z origin_fits z_fits far =
    let apart = distance (z -ℤ origin) far in
    let most : apart.0 < 65536 = omega (arith, ints, apart.1, origin_fits.sfits, z_fits.sfits) in
    let is : fixed z -ℤ fixed origin ≡ pos (apart.0 * 65536) =
    fixed_difference z origin ∙ ap fixed apart.1 ∙ omega (arith, ints) in
    let wrapped : int_wrapping_sub w32 (fixed z) (fixed origin) <ℤ pos 0 =
    subst (λ d. d <ℤ pos 0)
    (sym (wrapping_sub_is w32 (fixed z) (fixed origin) (fixed_fits z z_fits) (fixed_fits origin origin_fits)))
    (wrapped_word (fixed z -ℤ fixed origin) (apart.0 * 65536) is (omega (arith, apart.2)) (omega (arith, most))) in
    shifted_below (int_wrapping_sub w32 (fixed z) (fixed origin)) wrapped

pub block_wraps : BlockWraps
block_wraps = record {
  defined = record { first = omega (arith, ints); last = omega (arith, ints) };
  released = refl;
}

pub block_wraps_below : BlockWrapsBelow
block_wraps_below = record {
  undefined = λ k along. omega (arith, ints, along.first);
  released = refl;
}
