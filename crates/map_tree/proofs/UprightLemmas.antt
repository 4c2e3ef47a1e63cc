-- The column at which an upright partition changes the side of a row: its own.
use Rattle.std.proofs.Common.{Bool, suc, zero, ℤ, pos, negsuc, ◌-ℤ◌, ◌*ℤ◌, ◌≤ℤ◌, ◌<ℤ◌, ◌≡◌, ◌⊎◌, inl, inr, refl, sym, ap, ◌∙◌, subst, arith}
use Rattle.std.proofs.lemmas.Int.{ints, by_lt_z}
use Rattle.std.specs.Cmp.{int_cmp_is}
use Rattle.std.specs.Ordering.{int_cmp}
use Rattle.std.specs.declared.cmp.Ordering.{Ordering}
use Rattle.std.specs.declared.cmp.Ordering.TheVariants.{Less, Equal, Greater}
use Rattle.map_geo.specs.declared.sides.Side.{Side}
use Rattle.map_geo.specs.declared.sides.Side.TheVariants.{Front, Back}
use Rattle.map_geo.specs.Point.{point_at}
use Rattle.map_geo.specs.Partition.{Partition}
use Rattle.map_geo.specs.Side.{cross, side_of, other, side_of_tie, is_origin}
use Rattle.map_geo.proofs.AlongLemmas.{row_stays}
use Rattle.map_geo.proofs.ProductLemmas.{mul-lt_positive, mul-lt_negative}
use Rattle.map_geo.proofs.SignLemmas.{side_of-front, side_of-back, side_of-tie}
use Rattle.map_tree.specs.Cuts.{IsLast}
use Rattle.map_tree.proofs.RowLemmas.{not_other}

less_none : (k a : ℤ) → k ≡ k -ℤ pos 0 *ℤ a
less_none k a = omega (arith, ints)

times_none : (k : ℤ) → k *ℤ pos 0 ≡ pos 0
times_none (pos n) = omega (arith, ints)
times_none (negsuc n) = omega (arith, ints)

left_of : (x z : ℤ) → x <ℤ z → (x -ℤ z) <ℤ pos 0
left_of x z less = omega (arith, ints)

right_of : (x z : ℤ) → z <ℤ x → pos 0 <ℤ (x -ℤ z)
right_of x z more = omega (arith, ints)

at_or_left : (x z : ℤ) → x ≤ℤ z → (x <ℤ z) ⊎ (x ≡ z)
at_or_left x z to = by_lt_z x z (λ less. inl less) (λ not_less. inr (omega (arith, ints)))

-- the side of the columns left of a partition and of its own, the other one right of it
record Stands (line : Partition) (y : ℤ) (s : Side) : Type 0 where
  left : (x : ℤ) → x <ℤ line.x → side_of line (point_at x y) ≡ s
  own : side_of line (point_at line.x y) ≡ s
  right : (x : ℤ) → line.x <ℤ x → side_of line (point_at x y) ≡ other s

module _ (line : Partition) (y : ℤ) (upright : line.dx ≡ pos 0) where
  -- the cross product doesn't depend on the row
  across : (x : ℤ) → line.dy *ℤ (x -ℤ line.x) ≡ cross line (point_at x y)
  across x = less_none (line.dy *ℤ (x -ℤ line.x)) (y -ℤ line.y) ∙ ap (λ dx. line.dy *ℤ (x -ℤ line.x) -ℤ dx *ℤ (y -ℤ line.y)) (sym upright)

  below : (a : ℤ) → (line.dy *ℤ a) <ℤ (line.dy *ℤ pos 0) → (line.dy *ℤ a) <ℤ pos 0
  below a less = subst (λ z. (line.dy *ℤ a) <ℤ z) (times_none line.dy) less

  above : (a : ℤ) → (line.dy *ℤ pos 0) <ℤ (line.dy *ℤ a) → pos 0 <ℤ (line.dy *ℤ a)
  above a more = subst (λ z. z <ℤ (line.dy *ℤ a)) (times_none line.dy) more

  itself : (z : ℤ) → z -ℤ z ≡ pos 0
  itself z = omega (arith, ints)

  own_side : (s : Side) (o : Ordering) → o ≡ int_cmp line.dy (pos 0) → ((b : Bool) → side_of_tie Equal o b ≡ s) → side_of line (point_at line.x y) ≡ s
  own_side s o steep tie =
      side_of-tie line (point_at line.x y) _ (across line.x) (ap (λ z. line.dy *ℤ z) (itself line.x) ∙ times_none line.dy)
      ∙ subst (λ dx. side_of_tie (int_cmp dx (pos 0)) (int_cmp line.dy (pos 0)) (is_origin line (point_at line.x y)) ≡ s) (sym upright)
      (subst (λ t. side_of_tie Equal t (is_origin line (point_at line.x y)) ≡ s) steep (tie _))

  stands_up : pos 0 <ℤ line.dy → Stands line y Back
  stands_up up = record {
    left = λ x less. side_of-back line (point_at x y) _ (across x) (below _ (mul-lt_positive line.dy _ _ up (left_of x line.x less)));
    own = own_side Back Greater (int_cmp_is line.dy (pos 0) Greater up) (λ b. refl);
    right = λ x more. side_of-front line (point_at x y) _ (across x) (above _ (mul-lt_positive line.dy _ _ up (right_of x line.x more)));
  }

  stands_down : line.dy <ℤ pos 0 → Stands line y Front
  stands_down down = record {
    left = λ x less. side_of-front line (point_at x y) _ (across x) (above _ (mul-lt_negative line.dy _ _ down (left_of x line.x less)));
    own = own_side Front Less (int_cmp_is line.dy (pos 0) Less down) (λ b. refl);
    right = λ x more. side_of-back line (point_at x y) _ (across x) (below _ (mul-lt_negative line.dy _ _ down (right_of x line.x more)));
  }

  up_to_own : (s : Side) → Stands line y s → (x : ℤ) → x ≤ℤ line.x → side_of line (point_at x y) ≡ s
  up_to_own s stands x to = elim (at_or_left x line.x to) [
    | inl less ↦ stands.left x less
    | inr same ↦ ap (λ z. side_of line (point_at z y)) same ∙ stands.own
  ]

  stands_by : (x0 x1 : ℤ) (s : Side) (dy : ℤ) → line.dy ≡ dy → side_of line (point_at x0 y) ≡ s → side_of line (point_at x1 y) ≡ other s → (l : Side) × Stands line y l
  stands_by x0 x1 s (pos zero) flat left right = absurd (not_other s (sym left ∙ (row_stays line y x0 x1 flat ∙ right)))
  stands_by x0 x1 s (pos (suc n)) up left right = (Back, stands_up (omega (arith, ints, up)))
  stands_by x0 x1 s (negsuc n) down left right = (Front, stands_down (omega (arith, ints, down)))

  last_by : (x0 x1 : ℤ) (s l : Side) → Stands line y l → x0 <ℤ x1 → side_of line (point_at x0 y) ≡ s → side_of line (point_at x1 y) ≡ other s → IsLast line y s x0 x1 line.x
  last_by x0 x1 s l stands ordered left right = by_lt_z line.x x0
      (λ more. absurd (not_other s (sym left ∙ (stands.right x0 more ∙ (sym (stands.right x1 (omega (arith, ints, more, ordered))) ∙ right)))))
      (λ from.
      let same : s ≡ l = sym left ∙ up_to_own l stands x0 from in
      record {
        from = from;
        below = by_lt_z line.x x1 (λ below. below) (λ to. absurd (not_other s (same ∙ (sym (up_to_own l stands x1 to) ∙ right))));
        has = stands.own ∙ sym same;
        others = λ x after to. stands.right x after ∙ ap (λ t. other t) (sym same);
      })

-- of a row whose ends have both sides the last column with the left one's is the partition's own
pub own_is_last : (line : Partition) (y : ℤ) (s : Side) (x0 x1 : ℤ) → line.dx ≡ pos 0 → x0 <ℤ x1 → side_of line (point_at x0 y) ≡ s
    → side_of line (point_at x1 y) ≡ other s → IsLast line y s x0 x1 line.x
own_is_last line y s x0 x1 upright ordered left right =
    let side = stands_by line y upright x0 x1 s line.dy refl left right in
    last_by line y upright x0 x1 s side.0 side.1 ordered left right
