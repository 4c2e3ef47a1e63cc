-- The middle of two numbers, and what fits.
use Rattle.std.proofs.Common.{ℤ, pos, negsuc, ◌+ℤ◌, ◌≤ℤ◌, ◌<ℤ◌, ◌≡◌, ◌∙◌, FitsSigned, to_z, of_z, w32, refl, arith}
use Rattle.std.proofs.lemmas.Int.{ints, to_z-of_z}
use Rattle.std.specs.Int.Signed.{shr_z}
use Rattle.map_geo.specs.Point.{IsInRange}
use Rattle.map_geo.proofs.PointCountLemmas.{in_fits}
use Rattle.map_tree.specs.Cuts.{IsMiddle}

pub half_of : (low high sum : ℤ) → sum ≡ low +ℤ high → IsMiddle (shr_z sum 2) low high
half_of low high (pos n) e = record { lower = omega (arith, ints, e); upper = omega (arith, ints, e) }
half_of low high (negsuc n) e = record { lower = omega (arith, ints, e); upper = omega (arith, ints, e) }

module _ (low high : ℤ) (low_in : IsInRange low) (high_in : IsInRange high) where
  pub middle_is : IsMiddle (shr_z (low +ℤ high) 2) low high
  middle_is = half_of low high (low +ℤ high) refl

  pub middle_in : IsInRange (shr_z (low +ℤ high) 2)
  middle_in = record {
    least = omega (arith, ints, middle_is.lower, middle_is.upper, low_in.least, high_in.least);
    greatest = omega (arith, ints, middle_is.lower, middle_is.upper, low_in.greatest, high_in.greatest);
  }

  sum_fits : FitsSigned w32 (low +ℤ high)
  sum_fits = omega (arith, ints, low_in.least, low_in.greatest, high_in.least, high_in.greatest)

  middle_fits : FitsSigned w32 (shr_z (low +ℤ high) 2)
  middle_fits = omega (arith, ints, middle_in.least, middle_in.greatest)

  pub middle_read : to_z w32 (of_z w32 (shr_z (to_z w32 (of_z w32 (to_z w32 (of_z w32 low) +ℤ to_z w32 (of_z w32 high)))) 2)) ≡ shr_z (low +ℤ high) 2
  middle_read =
      let low_fits : FitsSigned w32 low = omega (arith, ints, low_in.least, low_in.greatest) in
      let high_fits : FitsSigned w32 high = omega (arith, ints, high_in.least, high_in.greatest) in
      let s = sum_fits in
      let m = middle_fits in
      simp to_z-of_z

pub between_fits : (a z b : ℤ) → IsInRange a → IsInRange b → a ≤ℤ z → z <ℤ b → FitsSigned w32 z
between_fits a z b h k from below = omega (arith, ints, h.least, k.greatest)

pub next_fits : (a z b : ℤ) → IsInRange a → IsInRange b → a ≤ℤ z → z <ℤ b → FitsSigned w32 (z +ℤ pos 1)
next_fits a z b h k from below = omega (arith, ints, h.least, k.greatest)

-- what is less than a number is at most that number when it grows by one
pub next_to : (y b : ℤ) → y <ℤ b → (y +ℤ pos 1) ≤ℤ b
next_to y b h = omega (arith, ints)

-- what is read of a number that is told to be one in range is that one
pub read_as : (z b : ℤ) → z ≡ b → IsInRange b → to_z w32 (of_z w32 z) ≡ b
read_as z b same h = let fits : FitsSigned w32 z = rw same (in_fits b h) in to_z-of_z w32 z fits ∙ same

pub read_in : (z b : ℤ) → z ≡ b → IsInRange b → IsInRange (to_z w32 (of_z w32 z))
read_in z b same h = rw (read_as z b same h) h

less_at_most : (z b : ℤ) → z <ℤ b → z ≤ℤ b
less_at_most z b h = omega (arith, ints)

at_most_next : (a z : ℤ) → a ≤ℤ z → a ≤ℤ (z +ℤ pos 1)
at_most_next a z h = omega (arith, ints)

-- a column from a to below b, as it is read, and the next one
module _ (a z b : ℤ) (a_in : IsInRange a) (b_in : IsInRange b) (from : a ≤ℤ z) (below : z <ℤ b) where
  z_fits : FitsSigned w32 z
  z_fits = between_fits a z b a_in b_in from below

  pub read_from : a ≤ℤ to_z w32 (of_z w32 z)
  read_from = rw (to_z-of_z w32 z z_fits) from

  pub read_to : to_z w32 (of_z w32 z) ≤ℤ b
  read_to = rw (to_z-of_z w32 z z_fits) (less_at_most z b below)

  pub next_read_fits : FitsSigned w32 (to_z w32 (of_z w32 z) +ℤ pos 1)
  next_read_fits = rw (to_z-of_z w32 z z_fits) (next_fits a z b a_in b_in from below)

  pub next_read_from : a ≤ℤ to_z w32 (of_z w32 (to_z w32 (of_z w32 z) +ℤ pos 1))
  next_read_from = rw (to_z-of_z w32 z z_fits, to_z-of_z w32 (z +ℤ pos 1) (next_fits a z b a_in b_in from below)) (at_most_next a z from)
