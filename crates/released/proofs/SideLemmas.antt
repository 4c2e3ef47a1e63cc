-- The side that the released game computes is the side as defined.
use Rattle.std.proofs.Common.{ℕ, ℤ, pos, negsuc, ◌+◌, ◌*◌, ◌%◌, ◌<◌, ◌≤◌, ◌≡◌, ◌≢◌, ◌≤ℤ◌, ◌<ℤ◌, ◌*ℤ◌, ◌-ℤ◌, Bool, true, false, ◌&&◌, FitsSigned, w16, w32, refl, sym, ap, subst, ◌∙◌, arith}
use Rattle.std.proofs.Math.Nat.{le-mul_of_pos_right, mul_comm}
use Rattle.std.proofs.lemmas.Cmp.{int_ranked}
use Rattle.std.proofs.lemmas.Int.{ints, by_lt_z, unsigned_abs-mul, fits_signed_mul}
use Rattle.std.specs.Bool.{if◌then◌else◌}
use Rattle.std.specs.Cmp.{int_cmp_is, signed_Decides}
use Rattle.std.specs.Int.{int_bit_xor, int_shr, int_wrap, int_wrapping_sub}
use Rattle.std.specs.Ordering.{int_cmp, int_eq}
use Rattle.std.specs.Prelude.{unsigned_abs, int_lt, int_le}
use Rattle.std.specs.declared.cmp.Ordering.{Ordering}
use Rattle.std.specs.declared.cmp.Ordering.TheVariants.{Less, Equal, Greater}
use Rattle.le_rec.specs.declared.records.Node.{Node}
use Rattle.map_geo.specs.declared.sides.Side.{Side}
use Rattle.map_geo.specs.declared.sides.Side.TheVariants.{Front, Back}
use Rattle.released.specs.Laws.{IsWithinReach, ReleasedIsSide, RangeIsWithinReach, WrapsPastRange}
use Rattle.map_geo.specs.Partition.{Partition, partition_of}
use Rattle.map_geo.specs.Point.{Point, IsInRange}
use Rattle.released.specs.PointOnSide.{fixed, fixed_node, fixed_mul, has_sign_bit, released_slanted, released_side}
use Rattle.map_geo.specs.Side.{cross, is_origin, side_of_tie, side_on_line, side_of}
use Rattle.map_geo.proofs.SignLemmas.{side_of-front, side_of-back, side_of-tie}
use Rattle.released.proofs.WordLemmas.{sign, sign-fixed, sign-xor, sign_of_four, xor_fits, set_sign, clear_sign, fixed_fits, difference_of_fixed, units_of_fixed, fixed_mul_left, fixed_mul_right}

-- ---- products and signs

unlike_product : (k w : ℤ) → (sign k + sign w) % 2 ≡ 1 → (k *ℤ w) ≤ℤ pos 0
unlike_product (pos m) (pos n) e = absurd (omega arith)
unlike_product (pos m) (negsuc n) e = omega (arith, ints)
unlike_product (negsuc m) (pos n) e = omega (arith, ints)
unlike_product (negsuc m) (negsuc n) e = absurd (omega arith)

like_product : (k w : ℤ) → (sign k + sign w) % 2 ≡ 0 → pos 0 ≤ℤ (k *ℤ w)
like_product (pos m) (pos n) e = omega (arith, ints)
like_product (pos m) (negsuc n) e = absurd (omega arith)
like_product (negsuc m) (pos n) e = absurd (omega arith)
like_product (negsuc m) (negsuc n) e = omega (arith, ints)

up_product : (k w : ℤ) → pos 0 ≤ℤ k → pos 0 ≤ℤ w → pos 0 ≤ℤ (k *ℤ w)
up_product (pos m) (pos n) h j = omega (arith, ints)
up_product (pos m) (negsuc n) h j = absurd (omega (arith, ints))
up_product (negsuc m) w h j = absurd (omega (arith, ints))

down_product : (k w : ℤ) → pos 0 ≤ℤ k → w ≤ℤ pos 0 → (k *ℤ w) ≤ℤ pos 0
down_product (pos m) (pos n) h j = let e : n ≡ 0 = omega (arith, ints) in rw e (omega (arith, ints))
down_product (pos m) (negsuc n) h j = omega (arith, ints)
down_product (negsuc m) w h j = absurd (omega (arith, ints))

turned_product : (k w : ℤ) → k ≤ℤ pos 0 → pos 0 ≤ℤ w → (k *ℤ w) ≤ℤ pos 0
turned_product (pos m) (pos n) h j = let e : m ≡ 0 = omega (arith, ints) in rw e (omega (arith, ints))
turned_product (negsuc m) (pos n) h j = omega (arith, ints)
turned_product k (negsuc n) h j = absurd (omega (arith, ints))

back_product : (k w : ℤ) → k ≤ℤ pos 0 → w ≤ℤ pos 0 → pos 0 ≤ℤ (k *ℤ w)
back_product (pos m) (pos n) h j = omega (arith, ints)
back_product (pos m) (negsuc n) h j = let e : m ≡ 0 = omega (arith, ints) in rw e (omega (arith, ints))
back_product (negsuc m) (pos n) h j = let e : n ≡ 0 = omega (arith, ints) in rw e (omega (arith, ints))
back_product (negsuc m) (negsuc n) h j = omega (arith, ints)

zero_factor : (k w : ℤ) → k ≢ pos 0 → (k *ℤ w) ≡ pos 0 → w ≡ pos 0
zero_factor k w nonzero e =
    let none : unsigned_abs k * unsigned_abs w ≡ 0 = sym (unsigned_abs-mul k w) ∙ ap unsigned_abs e in
    let above : 0 < unsigned_abs k = omega (arith, ints) in
    let most : unsigned_abs w ≤ unsigned_abs w * unsigned_abs k = le-mul_of_pos_right (unsigned_abs w) above in
    omega (arith, ints, mul_comm (unsigned_abs k) (unsigned_abs w))

sign_below : (z : ℤ) → sign z ≡ 1 → z <ℤ pos 0
sign_below (pos n) e = absurd (omega arith)
sign_below (negsuc n) e = omega (arith, ints)

sign_above : (z : ℤ) → sign z ≡ 0 → pos 0 ≤ℤ z
sign_above (pos n) e = omega (arith, ints)
sign_above (negsuc n) e = absurd (omega arith)

sign_bound : (z : ℤ) → sign z ≤ 1
sign_bound (pos n) = omega arith
sign_bound (negsuc n) = omega arith

negative_sign : (z : ℤ) → z <ℤ pos 0 → sign z ≡ 1
negative_sign (pos n) h = absurd (omega (arith, ints))
negative_sign (negsuc n) h = refl

positive_sign : (z : ℤ) → pos 0 <ℤ z → sign z ≡ 0
positive_sign (pos n) h = refl
positive_sign (negsuc n) h = absurd (omega (arith, ints))

-- ---- the side of a point on the line

tie_back : (d e : Ordering) (origin : Bool) → d ≢ Equal → e ≢ Equal
    → (d ≡ Less → e ≡ Greater → origin ≡ true → ⊥) → side_of_tie d e origin ≡ Back
tie_back Less Less origin h k j = refl
tie_back Less Equal origin h k j = refl
tie_back Less Greater true h k j = absurd (j refl refl refl)
tie_back Less Greater false h k j = refl
tie_back Equal e origin h k j = absurd (h refl)
tie_back Greater Less origin h k j = refl
tie_back Greater Equal origin h k j = absurd (k refl)
tie_back Greater Greater origin h k j = refl

tie_upright : (e : Ordering) (origin : Bool) → e ≢ Greater → side_of_tie Equal e origin ≡ Front
tie_upright Less origin h = refl
tie_upright Equal origin h = refl
tie_upright Greater origin h = absurd (h refl)

tie_level : (d : Ordering) (origin : Bool) → d ≢ Less → side_of_tie d Equal origin ≡ Front
tie_level Less origin h = absurd (h refl)
tie_level Equal origin h = refl
tie_level Greater origin h = refl

not_equal : (z : ℤ) → z ≢ pos 0 → int_cmp z (pos 0) ≢ Equal
not_equal z h e = h (int_ranked z (pos 0) Equal (sym e))

not_less : (z : ℤ) → pos 0 ≤ℤ z → int_cmp z (pos 0) ≢ Less
not_less z h e = let k = int_ranked z (pos 0) Less (sym e) in omega (arith, ints, k)

not_greater : (z : ℤ) → z ≤ℤ pos 0 → int_cmp z (pos 0) ≢ Greater
not_greater z h e = let k = int_ranked z (pos 0) Greater (sym e) in omega (arith, ints, k)

both_true : (a b : Bool) → (a && b) ≡ true → (a ≡ true) × (b ≡ true)
both_true true b e = (refl, e)
both_true false b e = cc

-- what a point has at its partition's (x, y)
at_origin : (partition : Partition) (point : Point) → is_origin partition point ≡ true
    → ((point.x -ℤ partition.x) ≡ pos 0) × ((point.y -ℤ partition.y) ≡ pos 0)
at_origin partition point e =
    let parts = both_true (int_eq point.x partition.x) (int_eq point.y partition.y) e in
    let x : point.x ≡ partition.x = (signed_Decides point.x partition.x).0 parts.0 in
    let y : point.y ≡ partition.y = (signed_Decides point.y partition.y).0 parts.1 in
    (omega (arith, ints), omega (arith, ints))

is_at_origin : (partition : Partition) (point : Point) → (point.x -ℤ partition.x) ≡ pos 0
    → (point.y -ℤ partition.y) ≡ pos 0 → is_origin partition point ≡ true
is_at_origin partition point e f =
    let x : int_eq point.x partition.x ≡ true =
    (signed_Decides point.x partition.x).1 (omega (arith, ints)) in
    let y : int_eq point.y partition.y ≡ true =
    (signed_Decides point.y partition.y).1 (omega (arith, ints)) in
    λ i. x i && y i

module _ (partition : Partition) (point : Point) where
  front_or_tie : pos 0 ≤ℤ cross partition point
      → (cross partition point ≡ pos 0 → side_on_line partition point ≡ Front)
      → side_of partition point ≡ Front
  front_or_tie h tie =
      by_lt_z (pos 0) (cross partition point)
      (λ above. side_of-front partition point _ refl above)
      (λ below.
      let e : cross partition point ≡ pos 0 = omega (arith, ints) in
      side_of-tie partition point _ refl e ∙ tie e)

  back_or_tie : cross partition point ≤ℤ pos 0
      → (cross partition point ≡ pos 0 → side_on_line partition point ≡ Back)
      → side_of partition point ≡ Back
  back_or_tie h tie =
      by_lt_z (cross partition point) (pos 0)
      (λ below. side_of-back partition point _ refl below)
      (λ above.
      let e : cross partition point ≡ pos 0 = omega (arith, ints) in
      side_of-tie partition point _ refl e ∙ tie e)

  -- an upright partition
  module _ (upright : partition.dx ≡ pos 0) where
    upright_cross : cross partition point ≡ partition.dy *ℤ (point.x -ℤ partition.x)
    upright_cross =
        subst (λ dx. partition.dy *ℤ (point.x -ℤ partition.x) -ℤ dx *ℤ (point.y -ℤ partition.y)
        ≡ partition.dy *ℤ (point.x -ℤ partition.x)) (sym upright) (omega (arith, ints))

    upright_tie : (side : Side)
        → side_of_tie Equal (int_cmp partition.dy (pos 0)) (is_origin partition point) ≡ side
        → side_on_line partition point ≡ side
    upright_tie side e =
        ap (λ d. side_of_tie d (int_cmp partition.dy (pos 0)) (is_origin partition point))
        (sym (int_cmp_is partition.dx (pos 0) Equal upright))
        ∙ e

    -- left of it or on it, where it goes up, and where it doesn't
    left_of_up : point.x ≤ℤ partition.x → pos 0 <ℤ partition.dy → side_of partition point ≡ Back
    left_of_up h up =
        back_or_tie
        (rw upright_cross (down_product partition.dy (point.x -ℤ partition.x) (omega (arith, ints)) (omega (arith, ints))))
        (λ _. upright_tie Back
        (ap (λ e. side_of_tie Equal e (is_origin partition point))
        (sym (int_cmp_is partition.dy (pos 0) Greater up))))

    left_of_down : point.x ≤ℤ partition.x → partition.dy ≤ℤ pos 0
        → side_of partition point ≡ Front
    left_of_down h down =
        front_or_tie
        (rw upright_cross (back_product _ _ down (omega (arith, ints))))
        (λ _. upright_tie Front (tie_upright _ _ (not_greater partition.dy down)))

    -- right of it
    right_of_down : partition.x <ℤ point.x → partition.dy <ℤ pos 0
        → side_of partition point ≡ Back
    right_of_down h down =
        back_or_tie
        (rw upright_cross (turned_product partition.dy (point.x -ℤ partition.x) (omega (arith, ints)) (omega (arith, ints))))
        (λ e.
        let right : (point.x -ℤ partition.x) ≡ pos 0 =
        zero_factor partition.dy _ (λ k. omega (arith, ints)) (sym upright_cross ∙ e) in
        absurd (omega (arith, ints)))

    right_of_up : partition.x <ℤ point.x → pos 0 ≤ℤ partition.dy
        → side_of partition point ≡ Front
    right_of_up h up =
        front_or_tie
        (rw upright_cross (up_product _ _ up (omega (arith, ints))))
        (λ e. upright_tie Front (tie_upright _ _ (λ k.
        let above : pos 0 <ℤ partition.dy = int_ranked partition.dy (pos 0) Greater (sym k) in
        let right : (point.x -ℤ partition.x) ≡ pos 0 =
        zero_factor partition.dy _ (λ z. omega (arith, ints)) (sym upright_cross ∙ e) in
        omega (arith, ints))))

  -- a level partition
  module _ (level : partition.dy ≡ pos 0) where
    level_cross : cross partition point ≡ pos 0 -ℤ partition.dx *ℤ (point.y -ℤ partition.y)
    level_cross =
        subst (λ dy. dy *ℤ (point.x -ℤ partition.x) -ℤ partition.dx *ℤ (point.y -ℤ partition.y)
        ≡ pos 0 -ℤ partition.dx *ℤ (point.y -ℤ partition.y)) (sym level) (omega (arith, ints))

    level_tie : (side : Side)
        → side_of_tie (int_cmp partition.dx (pos 0)) Equal (is_origin partition point) ≡ side
        → side_on_line partition point ≡ side
    level_tie side e =
        ap (λ d. side_of_tie (int_cmp partition.dx (pos 0)) d (is_origin partition point))
        (sym (int_cmp_is partition.dy (pos 0) Equal level))
        ∙ e

    -- below it or on it, where it goes left, and where it doesn't
    below_left : point.y ≤ℤ partition.y → partition.dx <ℤ pos 0 → side_of partition point ≡ Back
    below_left h left =
        let product = back_product partition.dx (point.y -ℤ partition.y) (omega (arith, ints)) (omega (arith, ints)) in
        back_or_tie
        (rw level_cross (omega (arith, ints, product)))
        (λ _. level_tie Back
        (ap (λ d. side_of_tie d Equal (is_origin partition point))
        (sym (int_cmp_is partition.dx (pos 0) Less left))))

    below_right : point.y ≤ℤ partition.y → pos 0 ≤ℤ partition.dx
        → side_of partition point ≡ Front
    below_right h right =
        let product = down_product partition.dx (point.y -ℤ partition.y) right (omega (arith, ints)) in
        front_or_tie
        (rw level_cross (omega (arith, ints, product)))
        (λ _. level_tie Front (tie_level _ _ (not_less partition.dx right)))

    -- above it
    above_right : partition.y <ℤ point.y → pos 0 <ℤ partition.dx
        → side_of partition point ≡ Back
    above_right h right =
        let product = up_product partition.dx (point.y -ℤ partition.y) (omega (arith, ints)) (omega (arith, ints)) in
        back_or_tie
        (rw level_cross (omega (arith, ints, product)))
        (λ e.
        let none : (partition.dx *ℤ (point.y -ℤ partition.y)) ≡ pos 0 =
        let k = sym level_cross ∙ e in omega (arith, ints, k) in
        let up : (point.y -ℤ partition.y) ≡ pos 0 =
        zero_factor partition.dx _ (λ z. omega (arith, ints)) none in
        absurd (omega (arith, ints)))

    above_left : partition.y <ℤ point.y → partition.dx ≤ℤ pos 0
        → side_of partition point ≡ Front
    above_left h left =
        let product = turned_product partition.dx (point.y -ℤ partition.y) left (omega (arith, ints)) in
        front_or_tie
        (rw level_cross (omega (arith, ints, product)))
        (λ e. level_tie Front (tie_level _ _ (λ k.
        let under : partition.dx <ℤ pos 0 = int_ranked partition.dx (pos 0) Less (sym k) in
        let none : (partition.dx *ℤ (point.y -ℤ partition.y)) ≡ pos 0 =
        let j = sym level_cross ∙ e in omega (arith, ints, j) in
        let up : (point.y -ℤ partition.y) ≡ pos 0 =
        zero_factor partition.dx _ (λ z. omega (arith, ints)) none in
        omega (arith, ints))))

  front_by_products : (partition.dx *ℤ (point.y -ℤ partition.y))
      <ℤ (partition.dy *ℤ (point.x -ℤ partition.x))
      → side_of partition point ≡ Front
  front_by_products h = side_of-front partition point _ refl (omega (arith, ints))

  -- a partition that is neither
  module _ (slanted_x : partition.dx ≢ pos 0) (slanted_y : partition.dy ≢ pos 0) where
    abbrev sign_left : ℕ
    sign_left = (sign partition.dy + sign (point.x -ℤ partition.x)) % 2

    abbrev sign_right : ℕ
    sign_right = (sign partition.dx + sign (point.y -ℤ partition.y)) % 2

    -- where both products are 0, as they are where their signs differ and the cross product is 0
    apart_at_origin : (partition.dy *ℤ (point.x -ℤ partition.x)) ≡ pos 0
        → (partition.dx *ℤ (point.y -ℤ partition.y)) ≡ pos 0
        → ((point.x -ℤ partition.x) ≡ pos 0) × ((point.y -ℤ partition.y) ≡ pos 0)
    apart_at_origin e f =
        (zero_factor partition.dy _ slanted_y e, zero_factor partition.dx _ slanted_x f)

    slanted_tie : (partition.dx <ℤ pos 0 → pos 0 <ℤ partition.dy
        → (point.x -ℤ partition.x) ≡ pos 0 → (point.y -ℤ partition.y) ≡ pos 0 → ⊥)
        → side_on_line partition point ≡ Back
    slanted_tie never =
        tie_back _ _ _ (not_equal partition.dx slanted_x) (not_equal partition.dy slanted_y)
        (λ d e origin.
        let zeros = at_origin partition point origin in
        never (int_ranked partition.dx (pos 0) Less (sym d))
        (int_ranked partition.dy (pos 0) Greater (sym e)) zeros.0 zeros.1)

    back_by_signs : sign_left ≡ 1 → sign_right ≡ 0 → side_of partition point ≡ Back
    back_by_signs l r =
        let p = unlike_product partition.dy (point.x -ℤ partition.x) l in
        let q = like_product partition.dx (point.y -ℤ partition.y) r in
        back_or_tie (omega (arith, ints, p, q)) (λ _. slanted_tie (λ left up x y.
        let k : sign partition.dy ≡ 1 =
        let zero : sign (point.x -ℤ partition.x) ≡ 0 = ap sign x in
        omega (arith, l, sign_bound partition.dy) in
        let h = sign_below partition.dy k in
        omega (arith, ints, h)))

    front_by_signs : sign_left ≡ 0 → sign_right ≡ 1 → side_of partition point ≡ Front
    front_by_signs l r =
        let p = like_product partition.dy (point.x -ℤ partition.x) l in
        let q = unlike_product partition.dx (point.y -ℤ partition.y) r in
        front_or_tie (omega (arith, ints, p, q)) (λ e.
        let no_left : (partition.dy *ℤ (point.x -ℤ partition.x)) ≡ pos 0 =
        omega (arith, ints, p, q, e) in
        let no_right : (partition.dx *ℤ (point.y -ℤ partition.y)) ≡ pos 0 =
        omega (arith, ints, p, q, e) in
        let zeros = apart_at_origin no_left no_right in
        let dy_sign : sign partition.dy ≡ 0 =
        let zero : sign (point.x -ℤ partition.x) ≡ 0 = ap sign zeros.0 in
        omega (arith, l, sign_bound partition.dy) in
        let dx_sign : sign partition.dx ≡ 1 =
        let zero : sign (point.y -ℤ partition.y) ≡ 0 = ap sign zeros.1 in
        omega (arith, r, sign_bound partition.dx) in
        let up : pos 0 <ℤ partition.dy =
        let h = sign_above partition.dy dy_sign in omega (arith, ints, h) in
        let d : Less ≡ int_cmp partition.dx (pos 0) =
        int_cmp_is partition.dx (pos 0) Less (sign_below partition.dx dx_sign) in
        let k : Greater ≡ int_cmp partition.dy (pos 0) =
        int_cmp_is partition.dy (pos 0) Greater up in
        let o : is_origin partition point ≡ true = is_at_origin partition point zeros.0 zeros.1 in
        (λ i. side_of_tie (sym d i) (sym k i) (o i)))

    back_by_products : sign_left ≡ sign_right
        → (partition.dy *ℤ (point.x -ℤ partition.x))
        ≤ℤ (partition.dx *ℤ (point.y -ℤ partition.y))
        → side_of partition point ≡ Back
    back_by_products same h =
        back_or_tie (omega (arith, ints)) (λ _. slanted_tie (λ left up x y.
        let dx_sign : sign partition.dx ≡ 1 = negative_sign partition.dx left in
        let dy_sign : sign partition.dy ≡ 0 = positive_sign partition.dy up in
        let x_sign : sign (point.x -ℤ partition.x) ≡ 0 = ap sign x in
        let y_sign : sign (point.y -ℤ partition.y) ≡ 0 = ap sign y in
        omega (arith, same)))

-- ---- the released routine

if_cases : (b : Bool) (x y z : Side) → (b ≡ true → x ≡ z) → (b ≡ false → y ≡ z)
    → (if b then x else y) ≡ z
if_cases true x y z h k = h refl
if_cases false x y z h k = k refl

zero_of_fixed : (z : ℤ) → int_eq (fixed z) (pos 0) ≡ true → z ≡ pos 0
zero_of_fixed z e =
    let zero : fixed z ≡ pos 0 = (signed_Decides (fixed z) (pos 0)).0 e in omega (arith, ints)

not_zero_of_fixed : (z : ℤ) → int_eq (fixed z) (pos 0) ≡ false → z ≢ pos 0
not_zero_of_fixed z e zero =
    let k : int_eq (fixed z) (pos 0) ≡ true =
    (signed_Decides (fixed z) (pos 0)).1 (omega (arith, ints)) in cc

step_size : (z : ℤ) → FitsSigned w16 z → unsigned_abs z ≤ 32768
step_size z fits = omega (arith, ints)

product_of_steps : (a b : ℤ) → FitsSigned w16 a → FitsSigned w16 b → FitsSigned w32 (a *ℤ b)
product_of_steps a b f g =
    fits_signed_mul w32 a b 32768 32768 (step_size a f) (step_size b g) (omega arith)

fits_of_range : (z : ℤ) → IsInRange z → FitsSigned w16 z
fits_of_range z h = omega (arith, ints, h.least, h.greatest)

fits_of_difference : (a b : ℤ) → IsInRange a → IsInRange b → FitsSigned w16 (a -ℤ b)
fits_of_difference a b f g = omega (arith, ints, f.least, f.greatest, g.least, g.greatest)

pub range_is_within_reach : RangeIsWithinReach
range_is_within_reach node point node_x node_y dx dy point_x point_y = record {
  dx = dx;
  dy = dy;
  x = fits_of_range node.x node_x;
  y = fits_of_range node.y node_y;
  column = fits_of_range point.x point_x;
  row = fits_of_range point.y point_y;
  right = fits_of_difference point.x node.x point_x node_x;
  up = fits_of_difference point.y node.y point_y node_y;
}

pub wraps_past_range : WrapsPastRange
unfolding side_of int_wrap released_side
wraps_past_range = record { defined = refl; released = refl }

module _ (node : Node) (point : Point) (near : IsWithinReach node point) where
  abbrev partition : Partition
  partition = partition_of node

  abbrev right_by : ℤ
  right_by = point.x -ℤ node.x

  abbrev up_by : ℤ
  up_by = point.y -ℤ node.y

  left_is : fixed_mul (int_shr (fixed node.dy) 16) (fixed right_by) ≡ node.dy *ℤ right_by
  left_is =
      ap (λ k. fixed_mul k (fixed right_by)) (units_of_fixed node.dy)
      ∙ fixed_mul_left node.dy right_by
      (product_of_steps node.dy right_by near.dy near.right)

  right_is : fixed_mul (fixed up_by) (int_shr (fixed node.dx) 16) ≡ node.dx *ℤ up_by
  right_is =
      ap (fixed_mul (fixed up_by)) (units_of_fixed node.dx)
      ∙ fixed_mul_right up_by node.dx
      (product_of_steps node.dx up_by near.dx near.up)

  compared : int_lt (fixed_mul (fixed up_by) (int_shr (fixed node.dx) 16))
      (fixed_mul (int_shr (fixed node.dy) 16) (fixed right_by))
      ≡ int_lt (node.dx *ℤ up_by) (node.dy *ℤ right_by)
  compared i = int_lt (right_is i) (left_is i)

  dy_word : FitsSigned w32 (fixed node.dy)
  dy_word = fixed_fits node.dy near.dy

  dx_word : FitsSigned w32 (fixed node.dx)
  dx_word = fixed_fits node.dx near.dx

  right_word : FitsSigned w32 (fixed right_by)
  right_word = fixed_fits right_by near.right

  up_word : FitsSigned w32 (fixed up_by)
  up_word = fixed_fits up_by near.up

  abbrev all_four : ℤ
  all_four =
      int_bit_xor w32 (int_bit_xor w32 (int_bit_xor w32 (fixed node.dy) (fixed node.dx))
      (fixed right_by)) (fixed up_by)

  abbrev these_two : ℤ
  these_two = int_bit_xor w32 (fixed node.dy) (fixed right_by)

  all_four_fits : FitsSigned w32 all_four
  all_four_fits = xor_fits _ _ (xor_fits _ _ (xor_fits _ _ dy_word dx_word) right_word) up_word

  all_four_sign : sign all_four ≡ (sign node.dy + sign node.dx + sign right_by + sign up_by) % 2
  all_four_sign =
      sign_of_four _ _ _ _ dy_word dx_word right_word up_word
      ∙ (λ i. (sign-fixed node.dy i + sign-fixed node.dx i + sign-fixed right_by i
      + sign-fixed up_by i) % 2)

  these_two_sign : sign these_two ≡ (sign node.dy + sign right_by) % 2
  these_two_sign =
      sign-xor _ _ dy_word right_word
      ∙ (λ i. (sign-fixed node.dy i + sign-fixed right_by i) % 2)

  slanted : node.dx ≢ pos 0 → node.dy ≢ pos 0
      → released_slanted (fixed_node node) (fixed right_by) (fixed up_by)
      ≡ side_of partition point
  slanted slanted_x slanted_y =
      if_cases (has_sign_bit all_four) _ _ _
      (λ differ.
      let four = set_sign all_four all_four_fits differ in
      let two_fits = xor_fits _ _ dy_word right_word in
      if_cases (has_sign_bit these_two) Back Front _
      (λ set.
      let two = set_sign these_two two_fits set in
      sym (back_by_signs partition point slanted_x slanted_y
      (omega (arith, these_two_sign, two))
      (omega (arith, these_two_sign, two, all_four_sign, four))))
      (λ clear.
      let two = clear_sign these_two two_fits clear in
      sym (front_by_signs partition point slanted_x slanted_y
      (omega (arith, these_two_sign, two))
      (omega (arith, these_two_sign, two, all_four_sign, four)))))
      (λ agree.
      let four = clear_sign all_four all_four_fits agree in
      if_cases (int_lt (fixed_mul (fixed up_by) (int_shr (fixed node.dx) 16))
      (fixed_mul (int_shr (fixed node.dy) 16) (fixed right_by))) Front Back _
      (λ less.
      let h = sym compared ∙ less in
      sym (front_by_products partition point (omega (arith, ints, h))))
      (λ not_less.
      let h = sym compared ∙ not_less in
      sym (back_by_products partition point slanted_x slanted_y
      (omega (arith, all_four_sign, four))
      (omega (arith, ints, h)))))

  differences : released_slanted (fixed_node node)
      (int_wrapping_sub w32 (fixed point.x) (fixed node.x))
      (int_wrapping_sub w32 (fixed point.y) (fixed node.y))
      ≡ released_slanted (fixed_node node) (fixed right_by) (fixed up_by)
  differences i =
      released_slanted (fixed_node node) (difference_of_fixed point.x node.x near.column near.x near.right i)
      (difference_of_fixed point.y node.y near.row near.y near.up i)

  released_here : released_side (fixed point.x) (fixed point.y) (fixed_node node)
      ≡ side_of (partition_of node) point
  unfolding released_side
  released_here =
      if_cases (int_eq (fixed node.dx) (pos 0)) _ _ _
      (λ upright.
      let dx = zero_of_fixed node.dx upright in
      if_cases (int_le (fixed point.x) (fixed node.x)) _ _ _
      (λ left.
      if_cases (int_lt (pos 0) (fixed node.dy)) Back Front _
      (λ up. sym (left_of_up partition point dx (omega (arith, ints)) (omega (arith, ints))))
      (λ down. sym (left_of_down partition point dx (omega (arith, ints)) (omega (arith, ints)))))
      (λ right.
      if_cases (int_lt (fixed node.dy) (pos 0)) Back Front _
      (λ down. sym (right_of_down partition point dx (omega (arith, ints)) (omega (arith, ints))))
      (λ up. sym (right_of_up partition point dx (omega (arith, ints)) (omega (arith, ints))))))
      (λ not_upright.
      if_cases (int_eq (fixed node.dy) (pos 0)) _ _ _
      (λ level.
      let dy = zero_of_fixed node.dy level in
      if_cases (int_le (fixed point.y) (fixed node.y)) _ _ _
      (λ below.
      if_cases (int_lt (fixed node.dx) (pos 0)) Back Front _
      (λ left. sym (below_left partition point dy (omega (arith, ints)) (omega (arith, ints))))
      (λ right. sym (below_right partition point dy (omega (arith, ints)) (omega (arith, ints)))))
      (λ above.
      if_cases (int_lt (pos 0) (fixed node.dx)) Back Front _
      (λ right. sym (above_right partition point dy (omega (arith, ints)) (omega (arith, ints))))
      (λ left. sym (above_left partition point dy (omega (arith, ints)) (omega (arith, ints))))))
      (λ not_level.
      differences
      ∙ slanted (not_zero_of_fixed node.dx not_upright) (not_zero_of_fixed node.dy not_level)))

pub released_is_side : ReleasedIsSide
released_is_side node point near = released_here node point near
