-- Products of whole numbers: how large they are, and which way they grow.
use Rattle.std.proofs.Common.{ℤ, pos, negsuc, suc, zero, ◌+◌, ◌<◌, ◌≤◌, ◌≡◌, ◌<ℤ◌, ◌*ℤ◌, ◌-ℤ◌, FitsSigned, to_z, of_z, w32, arith}
use Rattle.std.proofs.Math.Nat.{mul-lt-mul_of_pos_left}
use Rattle.std.proofs.lemmas.Int.{ints, unsigned_abs-mul, fits_signed_mul, to_z-of_z}
use Rattle.std.proofs.lemmas.Nat.{mul-le}
use Rattle.std.specs.Prelude.{unsigned_abs}
use borrow.Author.Differences.{up, down, product_is, below_in}
use Rattle.map_geo.specs.Point.{IsInRange}

-- a difference of two coordinates in range
unsigned_abs-difference : (from to : ℤ) → IsInRange from → IsInRange to
    → unsigned_abs (to -ℤ from) ≤ 32767
unsigned_abs-difference from to f t = omega (arith, ints, f.least, f.greatest, t.least, t.greatest)

pub unsigned_abs-product : (step from to : ℤ) → unsigned_abs step ≤ 32768 → IsInRange from
    → IsInRange to → unsigned_abs (step *ℤ (to -ℤ from)) ≤ 1073709056
unsigned_abs-product step from to s f t =
    rw unsigned_abs-mul (mul-le (unsigned_abs step) (unsigned_abs (to -ℤ from)) 32768 32767 s
    (unsigned_abs-difference from to f t))

-- that product as the code reads it, and that it fits
pub product_read : (step from to : ℤ) → unsigned_abs step ≤ 32768 → IsInRange from → IsInRange to
    → to_z w32 (of_z w32 step)
    *ℤ to_z w32 (of_z w32 (to_z w32 (of_z w32 to) -ℤ to_z w32 (of_z w32 from)))
    ≡ step *ℤ (to -ℤ from)
product_read step from to s f t =
    let step_fits : FitsSigned w32 step = omega (arith, ints) in
    let from_fits : FitsSigned w32 from = omega (arith, ints, f.least, f.greatest) in
    let to_fits : FitsSigned w32 to = omega (arith, ints, t.least, t.greatest) in
    let difference_fits : FitsSigned w32 (to -ℤ from) =
    omega (arith, ints, unsigned_abs-difference from to f t) in
    simp to_z-of_z

pub product_fits : (step from to : ℤ) → unsigned_abs step ≤ 32768 → IsInRange from → IsInRange to
    → FitsSigned w32 (step *ℤ (to -ℤ from))
product_fits step from to s f t =
    fits_signed_mul w32 step (to -ℤ from) 32768 32767 s (unsigned_abs-difference from to f t)
    (omega arith)

-- a coordinate and a component of a direction as the code reads them
pub coordinate_read : (z : ℤ) → IsInRange z → IsInRange (to_z w32 (of_z w32 z))
coordinate_read z h =
    let fits : FitsSigned w32 z = omega (arith, ints, h.least, h.greatest) in simp to_z-of_z h

pub step_read : (z : ℤ) → unsigned_abs z ≤ 32768 → unsigned_abs (to_z w32 (of_z w32 z)) ≤ 32768
step_read z h = let fits : FitsSigned w32 z = omega (arith, ints) in simp to_z-of_z h

-- a product that the code was told of what it reads
pub product_told : (step from to told : ℤ) → unsigned_abs step ≤ 32768 → IsInRange from → IsInRange to
    → told ≡ to_z w32 (of_z w32 step) *ℤ (to_z w32 (of_z w32 to) -ℤ to_z w32 (of_z w32 from))
    → told ≡ step *ℤ (to -ℤ from)
product_told step from to told s f t e =
    let step_fits : FitsSigned w32 step = omega (arith, ints) in
    let from_fits : FitsSigned w32 from = omega (arith, ints, f.least, f.greatest) in
    let to_fits : FitsSigned w32 to = omega (arith, ints, t.least, t.greatest) in
    simp to_z-of_z at e

-- what the code reads at the difference of two such products
module _ (a b : ℤ) (h : unsigned_abs a ≤ 1073709056) (k : unsigned_abs b ≤ 1073709056) where
  a_fits : FitsSigned w32 a
  a_fits = omega (arith, ints)

  b_fits : FitsSigned w32 b
  b_fits = omega (arith, ints)

  products_fit : FitsSigned w32 (a -ℤ b)
  products_fit = omega (arith, ints)

  pub products_read_fit : FitsSigned w32 (to_z w32 (of_z w32 a) -ℤ to_z w32 (of_z w32 b))
  products_read_fit = let f = a_fits in let g = b_fits in simp to_z-of_z products_fit

  pub products_read : to_z w32 (of_z w32 (to_z w32 (of_z w32 a) -ℤ to_z w32 (of_z w32 b))) ≡ a -ℤ b
  products_read = let f = a_fits in let g = b_fits in let d = products_fit in simp to_z-of_z

-- a positive factor keeps the order
pub mul-lt_positive : (k a b : ℤ) → pos 0 <ℤ k → a <ℤ b → (k *ℤ a) <ℤ (k *ℤ b)
mul-lt_positive (pos zero) a b above h = absurd (omega (arith, ints))
mul-lt_positive (pos (suc n)) a b above h =
    let less : up a + down b < up b + down a = omega (arith, ints) in
    below_in _ _ (omega (
      arith,
      product_is (pos (suc n)) a,
      product_is
          (pos (suc n)) b,
      mul-lt-mul_of_pos_left {k = suc n} less (omega arith),
    ))
mul-lt_positive (negsuc n) a b above h = absurd (omega (arith, ints))

-- a negative factor turns it
pub mul-lt_negative : (k a b : ℤ) → k <ℤ pos 0 → a <ℤ b → (k *ℤ b) <ℤ (k *ℤ a)
mul-lt_negative (pos n) a b below h = absurd (omega (arith, ints))
mul-lt_negative (negsuc n) a b below h =
    let less : up a + down b < up b + down a = omega (arith, ints) in
    below_in _ _ (omega (
      arith,
      product_is (negsuc n) a,
      product_is
          (negsuc n) b,
      mul-lt-mul_of_pos_left {k = suc n} less (omega arith),
    ))
