-- The block of a row or a column that holds a coordinate.
use Rattle.std.proofs.Common.{◌≡◌, ℕ, ◌+◌, ◌*◌, ◌/◌, ℤ, pos, negsuc, ◌+ℤ◌, ◌-ℤ◌, ◌≤ℤ◌, ◌≤◌, ◌<◌, to_z, of_z, ap, ◌∙◌, arith, rules}
use Rattle.std.specs.Prelude.{FitsSigned}
use Rattle.std.specs.Int.{w16, w32, int_div_euclid}
use Rattle.std.proofs.Math.IntN.{nat_abs}
use Rattle.std.proofs.lemmas.Int.{ints, to_z-of_z}
use Rattle.map_tables.specs.BlockMap.{count_of, IsBlockAlong}

floor_holds_at : (origin z d : ℤ) → z ≡ origin +ℤ d → pos 0 ≤ℤ int_div_euclid d (pos 128)
    → IsBlockAlong origin z (nat_abs (int_div_euclid d (pos 128)))
floor_holds_at origin z (pos a) e h =
    record { first = omega (arith, ints, e); last = omega (arith, ints, e) }
floor_holds_at origin z (negsuc a) e h = absurd (omega (arith, ints, h))

floor_only_at : (origin z d : ℤ) (k : ℕ) → z ≡ origin +ℤ d → IsBlockAlong origin z k
    → int_div_euclid d (pos 128) ≡ pos k
floor_only_at origin z (pos a) k e is =
    let low : 128 * k ≤ a = omega (arith, ints, e, is.first) in
    let high : a < 128 * k + 128 = omega (arith, ints, e, is.last) in
    let floor : a / 128 ≡ k = omega arith in
    ap pos floor
floor_only_at origin z (negsuc a) k e is = absurd (omega (arith, ints, e, is.first))

module _ (origin z floor : ℤ) (is : floor ≡ int_div_euclid (z -ℤ origin) (pos 128)) where
  -- the floor, where it is not negative, is the number of the block
  pub floor_holds : pos 0 ≤ℤ floor → IsBlockAlong origin z (nat_abs floor)
  floor_holds h =
      let e : z ≡ origin +ℤ (z -ℤ origin) = omega (arith, ints) in
      rw is (floor_holds_at origin z (z -ℤ origin) e (rw is at h))

  -- and no other number is
  pub floor_only : (k : ℕ) → IsBlockAlong origin z k → floor ≡ pos k
  floor_only k holds =
      let e : z ≡ origin +ℤ (z -ℤ origin) = omega (arith, ints) in
      is ∙ floor_only_at origin z (z -ℤ origin) k e holds

-- what the machine's difference and quotient come to
pub quotient : (origin z from floor : ℤ) → FitsSigned w16 origin → FitsSigned w32 z
    → FitsSigned w32 (z -ℤ origin) → from ≡ to_z w16 (of_z w16 origin)
    → floor
    ≡ int_div_euclid (to_z w32 (of_z w32 (to_z w32 (of_z w32 z) -ℤ to_z w32 (of_z w32 from))))
    (pos 128)
    → floor ≡ int_div_euclid (z -ℤ origin) (pos 128)
quotient origin z from floor fo fz fd e is =
    let same : from ≡ origin = e ∙ to_z-of_z w16 origin fo in
    let wide : FitsSigned w32 origin = search rules in
    let first : to_z w32 (of_z w32 z) ≡ z = to_z-of_z w32 z fz in
    let second : to_z w32 (of_z w32 from) ≡ origin = rw same (to_z-of_z w32 origin wide) in
    is
    ∙ ap (λ d. int_div_euclid (to_z w32 (of_z w32 d)) (pos 128))
    (ap (λ a. a -ℤ to_z w32 (of_z w32 from)) first ∙ ap (λ b. z -ℤ b) second)
    ∙ ap (λ d. int_div_euclid d (pos 128)) (to_z-of_z w32 (z -ℤ origin) fd)

-- a number that a size isn't above
pub count_of-le : (size : ℤ) (k : ℕ) → size ≤ℤ pos k → count_of size ≤ k
count_of-le (pos n) k h = omega (arith, ints, h)
count_of-le (negsuc n) k h = omega arith
