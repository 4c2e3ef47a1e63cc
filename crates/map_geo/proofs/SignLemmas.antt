-- What the sign of the cross product says of the side, and the side of the cross product's sign.
use Rattle.std.proofs.Common.{ℤ, pos, ◌≤ℤ◌, ◌<ℤ◌, ◌≡◌, refl, sym, ap, subst, ◌∙◌, arith}
use Rattle.std.proofs.lemmas.Cmp.{int_ranked}
use Rattle.std.proofs.lemmas.Int.{ints}
use Rattle.std.specs.Cmp.{int_cmp_is}
use Rattle.std.specs.Ordering.{int_cmp}
use Rattle.std.specs.declared.cmp.Ordering.{Ordering}
use Rattle.std.specs.declared.cmp.Ordering.TheVariants.{Less, Equal, Greater}
use Rattle.map_geo.specs.declared.sides.Side.{Side}
use Rattle.map_geo.specs.declared.sides.Side.TheVariants.{Front, Back}
use Rattle.map_geo.specs.Point.{Point}
use Rattle.map_geo.specs.Partition.{Partition}
use Rattle.map_geo.specs.Side.{cross, side_by_cross, side_on_line, side_of}

pub side_of-front : (partition : Partition) (point : Point) (c : ℤ) → c ≡ cross partition point
    → pos 0 <ℤ c → side_of partition point ≡ Front
unfolding side_of
side_of-front partition point c e h =
    ap (λ o. side_by_cross o (side_on_line partition point))
    (sym (int_cmp_is (cross partition point) (pos 0) Greater (subst (λ z. pos 0 <ℤ z) e h)))

pub side_of-back : (partition : Partition) (point : Point) (c : ℤ) → c ≡ cross partition point
    → c <ℤ pos 0 → side_of partition point ≡ Back
unfolding side_of
side_of-back partition point c e h =
    ap (λ o. side_by_cross o (side_on_line partition point))
    (sym (int_cmp_is (cross partition point) (pos 0) Less (subst (λ z. z <ℤ pos 0) e h)))

pub side_of-tie : (partition : Partition) (point : Point) (c : ℤ) → c ≡ cross partition point
    → c ≡ pos 0 → side_of partition point ≡ side_on_line partition point
unfolding side_of
side_of-tie partition point c e h =
    ap (λ o. side_by_cross o (side_on_line partition point))
    (sym (int_cmp_is (cross partition point) (pos 0) Equal (sym e ∙ h)))

pub side_of-same : (partition : Partition) (p q : Point) → cross partition p ≡ cross partition q
    → side_on_line partition p ≡ side_on_line partition q
    → side_of partition p ≡ side_of partition q
unfolding side_of
side_of-same partition p q e f =
    ap (λ c. side_by_cross (int_cmp c (pos 0)) (side_on_line partition p)) e
    ∙ ap (side_by_cross (int_cmp (cross partition q) (pos 0))) f

side_by_cross-front : (c : ℤ) (on_line : Side) (o : Ordering) → o ≡ int_cmp c (pos 0)
    → side_by_cross o on_line ≡ Front → pos 0 ≤ℤ c
side_by_cross-front c on_line Less e is_front = cc
side_by_cross-front c on_line Equal e is_front =
    let h = int_ranked c (pos 0) Equal e in omega (arith, ints, h)
side_by_cross-front c on_line Greater e is_front =
    let h = int_ranked c (pos 0) Greater e in omega (arith, ints, h)

side_by_cross-back : (c : ℤ) (on_line : Side) (o : Ordering) → o ≡ int_cmp c (pos 0)
    → side_by_cross o on_line ≡ Back → c ≤ℤ pos 0
side_by_cross-back c on_line Less e is_back =
    let h = int_ranked c (pos 0) Less e in omega (arith, ints, h)
side_by_cross-back c on_line Equal e is_back =
    let h = int_ranked c (pos 0) Equal e in omega (arith, ints, h)
side_by_cross-back c on_line Greater e is_back = cc

pub cross-front : (partition : Partition) (point : Point) → side_of partition point ≡ Front
    → pos 0 ≤ℤ cross partition point
unfolding side_of
cross-front partition point is_front =
    side_by_cross-front (cross partition point) _
    (int_cmp (cross partition point) (pos 0)) refl is_front

pub cross-back : (partition : Partition) (point : Point) → side_of partition point ≡ Back
    → cross partition point ≤ℤ pos 0
unfolding side_of
cross-back partition point is_back =
    side_by_cross-back (cross partition point) _
    (int_cmp (cross partition point) (pos 0)) refl is_back
