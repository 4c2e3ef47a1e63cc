-- Sides along a line: from one end of a row or a column to the other, and over a rectangle.
use Rattle.std.proofs.Common.{ℤ, pos, ◌≤ℤ◌, ◌<ℤ◌, ◌-ℤ◌, ◌*ℤ◌, ◌≡◌, ◌⊎◌, inl, inr, Bool, refl, sym, ap, ◌∙◌, subst, arith}
use Rattle.std.proofs.lemmas.Int.{ints, by_lt_z}
use Rattle.std.specs.Cmp.{int_ranks}
use Rattle.std.specs.Ordering.{int_cmp, MatchOrdering}
use Rattle.std.specs.declared.cmp.Ordering.{Ordering}
use Rattle.std.specs.declared.cmp.Ordering.TheVariants.{Less, Equal, Greater}
use Rattle.map_geo.specs.declared.sides.Side.{Side}
use Rattle.map_geo.specs.declared.sides.Side.TheVariants.{Front, Back}
use Rattle.map_geo.specs.Point.{Point, point_at}
use Rattle.map_geo.specs.Partition.{Partition}
use Rattle.map_geo.specs.Side.{cross, is_origin, side_of_tie, side_of}
use Rattle.map_geo.specs.Laws.{SidesAlongRows, SidesAlongColumns, SidesByCorners}
use Rattle.map_geo.proofs.ProductLemmas.{mul-lt_positive, mul-lt_negative}
use Rattle.map_geo.proofs.SignLemmas.{side_of-front, side_of-back, cross-front, cross-back, side_of-same}

-- m lies strictly between a and b
record IsBetween (a m b : ℤ) : Type 0 where
  ways : ((a <ℤ m) × (m <ℤ b)) ⊎ ((b <ℤ m) × (m <ℤ a))

above_zero : (a m b : ℤ) → IsBetween a m b → pos 0 ≤ℤ a → pos 0 ≤ℤ b → pos 0 <ℤ m
above_zero a m b between h k =
    elim between.ways [ inl w ↦ omega (arith, ints) | inr w ↦ omega (arith, ints) ]

below_zero : (a m b : ℤ) → IsBetween a m b → a ≤ℤ pos 0 → b ≤ℤ pos 0 → m <ℤ pos 0
below_zero a m b between h k =
    elim between.ways [ inl w ↦ omega (arith, ints) | inr w ↦ omega (arith, ints) ]

-- where the cross product lies strictly between those of two points of one side, so does the point
side_of_between : (partition : Partition) (p q r : Point) (side : Side)
    → IsBetween (cross partition p) (cross partition q) (cross partition r)
    → side_of partition p ≡ side → side_of partition r ≡ side → side_of partition q ≡ side
side_of_between partition p q r Front between h k =
    side_of-front partition q _ refl
    (above_zero _ _ _ between (cross-front partition p h) (cross-front partition r k))
side_of_between partition p q r Back between h k =
    side_of-back partition q _ refl
    (below_zero _ _ _ between (cross-back partition p h) (cross-back partition r k))

-- what a line does along points that are numbered in order
data Sweep (partition : Partition) (points : ℤ → Point) : Type 0 where
  rises : ((a b : ℤ) → a <ℤ b → cross partition (points a) <ℤ cross partition (points b))
      → Sweep partition points
  falls : ((a b : ℤ) → a <ℤ b → cross partition (points b) <ℤ cross partition (points a))
      → Sweep partition points
  stays : ((a b : ℤ) → side_of partition (points a) ≡ side_of partition (points b))
      → Sweep partition points

side_of_inner : (partition : Partition) (points : ℤ → Point) → Sweep partition points
    → (a m b : ℤ) (side : Side) → a <ℤ m → m <ℤ b → side_of partition (points a) ≡ side
    → side_of partition (points b) ≡ side → side_of partition (points m) ≡ side
side_of_inner partition points (rises up) a m b side h k e f =
    side_of_between partition _ _ _ side (record { ways = inl (up a m h, up m b k) }) e f
side_of_inner partition points (falls down) a m b side h k e f =
    side_of_between partition _ _ _ side (record { ways = inr (down m b k, down a m h) }) e f
side_of_inner partition points (stays same) a m b side h k e f = same m a ∙ e

less_or_same : (a b : ℤ) → a ≤ℤ b → (a <ℤ b) ⊎ (a ≡ b)
less_or_same a b h = by_lt_z a b (λ k. inl k) (λ k. inr (omega (arith, ints)))

side_of_along : (partition : Partition) (points : ℤ → Point) → Sweep partition points → (a m b : ℤ)
    → a ≤ℤ m → m ≤ℤ b → side_of partition (points a) ≡ side_of partition (points b)
    → side_of partition (points m) ≡ side_of partition (points a)
side_of_along partition points sweep a m b h k e = elim (less_or_same a m h) [
  | inr same ↦ ap (λ z. side_of partition (points z)) (sym same)
  | inl after ↦ elim (less_or_same m b k) [
    | inr same ↦ ap (λ z. side_of partition (points z)) same ∙ sym e
    | inl before ↦ side_of_inner partition points sweep a m b _ after before refl (sym e)
  ]
]

difference_lt : (a b k : ℤ) → a <ℤ b → (a -ℤ k) <ℤ (b -ℤ k)
difference_lt a b k h = omega (arith, ints)

difference_gt : (a b k : ℤ) → a <ℤ b → (k -ℤ b) <ℤ (k -ℤ a)
difference_gt a b k h = omega (arith, ints)

-- ---- a row
side_of_tie-row : (o : Ordering) (p q : Bool) → side_of_tie o Equal p ≡ side_of_tie o Equal q
side_of_tie-row Less p q = refl
side_of_tie-row Equal p q = refl
side_of_tie-row Greater p q = refl

zero_product-row : (a b k : ℤ) → pos 0 *ℤ a -ℤ k ≡ pos 0 *ℤ b -ℤ k
zero_product-row a b k = omega (arith, ints)

-- a level partition has a row on one side
pub row_stays : (partition : Partition) (y a b : ℤ) → partition.dy ≡ pos 0
    → side_of partition (point_at a y) ≡ side_of partition (point_at b y)
row_stays partition y a b flat =
    let at : ℤ → Partition = λ dy. record partition { dy = dy } in
    subst (λ dy. side_of (at dy) (point_at a y) ≡ side_of (at dy) (point_at b y)) (sym flat)
    (side_of-same (at (pos 0)) (point_at a y) (point_at b y)
    (zero_product-row (a -ℤ partition.x) (b -ℤ partition.x) (partition.dx *ℤ (y -ℤ partition.y)))
    (side_of_tie-row (int_cmp partition.dx (pos 0)) (is_origin partition (point_at a y))
    (is_origin partition (point_at b y))))

row_sweep : (partition : Partition) (y : ℤ) (o : Ordering)
    → MatchOrdering o (partition.dy <ℤ pos 0) (partition.dy ≡ pos 0) (pos 0 <ℤ partition.dy)
    → Sweep partition (λ x. point_at x y)
row_sweep partition y Less down =
    falls (λ a b h. difference_lt _ _ _ (mul-lt_negative partition.dy _ _ down
    (difference_lt a b partition.x h)))
row_sweep partition y Equal flat = stays (λ a b. row_stays partition y a b flat)
row_sweep partition y Greater up =
    rises (λ a b h. difference_lt _ _ _ (mul-lt_positive partition.dy _ _ up
    (difference_lt a b partition.x h)))

pub sides_along_rows : SidesAlongRows
sides_along_rows partition y =
    side_of_along partition _ (row_sweep partition y _ (int_ranks partition.dy (pos 0)))

-- ---- a column
side_of_tie-column : (o : Ordering) (p q : Bool) → side_of_tie Equal o p ≡ side_of_tie Equal o q
side_of_tie-column Less p q = refl
side_of_tie-column Equal p q = refl
side_of_tie-column Greater p q = refl

zero_product-column : (k a b : ℤ) → k -ℤ pos 0 *ℤ a ≡ k -ℤ pos 0 *ℤ b
zero_product-column k a b = omega (arith, ints)

-- an upright partition has a column on one side
pub column_stays : (partition : Partition) (x a b : ℤ) → partition.dx ≡ pos 0
    → side_of partition (point_at x a) ≡ side_of partition (point_at x b)
column_stays partition x a b upright =
    let at : ℤ → Partition = λ dx. record partition { dx = dx } in
    subst (λ dx. side_of (at dx) (point_at x a) ≡ side_of (at dx) (point_at x b)) (sym upright)
    (side_of-same (at (pos 0)) (point_at x a) (point_at x b)
    (zero_product-column (partition.dy *ℤ (x -ℤ partition.x)) (a -ℤ partition.y) (b -ℤ partition.y))
    (side_of_tie-column (int_cmp partition.dy (pos 0)) (is_origin partition (point_at x a))
    (is_origin partition (point_at x b))))

column_sweep : (partition : Partition) (x : ℤ) (o : Ordering)
    → MatchOrdering o (partition.dx <ℤ pos 0) (partition.dx ≡ pos 0) (pos 0 <ℤ partition.dx)
    → Sweep partition (λ y. point_at x y)
column_sweep partition x Less left =
    rises (λ a b h. difference_gt _ _ _ (mul-lt_negative partition.dx _ _ left
    (difference_lt a b partition.y h)))
column_sweep partition x Equal upright = stays (λ a b. column_stays partition x a b upright)
column_sweep partition x Greater right =
    falls (λ a b h. difference_gt _ _ _ (mul-lt_positive partition.dx _ _ right
    (difference_lt a b partition.y h)))

pub sides_along_columns : SidesAlongColumns
sides_along_columns partition x =
    side_of_along partition _ (column_sweep partition x _ (int_ranks partition.dx (pos 0)))

-- ---- a rectangle: its left and right columns, then the row of the point
pub sides_by_corners : SidesByCorners
sides_by_corners rect partition side corners point inside =
    let left : side_of partition (point_at rect.x0 point.y) ≡ side =
    sides_along_columns partition rect.x0 rect.y0 point.y rect.y1 inside.lowest inside.highest
    (corners.low_left ∙ sym corners.high_left)
    ∙ corners.low_left in
    let right : side_of partition (point_at rect.x1 point.y) ≡ side =
    sides_along_columns partition rect.x1 rect.y0 point.y rect.y1 inside.lowest inside.highest
    (corners.low_right ∙ sym corners.high_right)
    ∙ corners.low_right in
    sides_along_rows partition point.y rect.x0 point.x rect.x1 inside.left inside.right
    (left ∙ sym right)
    ∙ left
