-- Rectangles, and the side that all their points have (ours).
use Rattle.std.specs.Prelude.{ℕ, ◌*◌, ℤ, pos, ◌+ℤ◌, ◌-ℤ◌, ◌*ℤ◌, ◌≤ℤ◌, ◌≡◌, unsigned_abs}
use Rattle.map_geo.specs.declared.sides.Side.{Side}
use Rattle.map_geo.specs.Point.{Point, IsInRange, point_at}
use Rattle.map_geo.specs.Partition.{Partition}
use Rattle.map_geo.specs.Side.{side_of}

-- the whole points from column x0 to column x1 and from row y0 to row y1, all four included
pub record Rect : Type 0 where
  pub x0 : ℤ
  pub y0 : ℤ
  pub x1 : ℤ
  pub y1 : ℤ

-- the rectangle from (x0, y0) to (x1, y1)
abbrev pub rect_at : ℤ → ℤ → ℤ → ℤ → Rect
rect_at x0 y0 x1 y1 = record { x0 = x0; y0 = y0; x1 = x1; y1 = y1 }

-- the whole numbers from a to b are one or more, and in range
pub record IsSpan (a b : ℤ) : Type 0 where
  pub first_in : IsInRange a
  pub last_in : IsInRange b
  pub ordered : a ≤ℤ b

-- how many whole numbers there are from a to b
abbrev pub span : ℤ → ℤ → ℤ
span a b = b -ℤ a +ℤ pos 1

-- a rectangle of at most 1048576 points
pub record IsRect (rect : Rect) : Type 0 where
  pub columns : IsSpan rect.x0 rect.x1
  pub rows : IsSpan rect.y0 rect.y1
  pub points : (span rect.x0 rect.x1 *ℤ span rect.y0 rect.y1) ≤ℤ pos 1048576

-- how many rows and columns a rectangle has, and how many points
abbrev pub rows_of : Rect → ℕ
rows_of rect = unsigned_abs (span rect.y0 rect.y1)

abbrev pub columns_of : Rect → ℕ
columns_of rect = unsigned_abs (span rect.x0 rect.x1)

abbrev pub point_count : Rect → ℕ
point_count rect = rows_of rect * columns_of rect

-- the point is one of the rectangle's
pub record Holds (rect : Rect) (point : Point) : Type 0 where
  pub left : rect.x0 ≤ℤ point.x
  pub right : point.x ≤ℤ rect.x1
  pub lowest : rect.y0 ≤ℤ point.y
  pub highest : point.y ≤ℤ rect.y1

-- the four corners of the rectangle have this side of the partition
pub record AreCornersOn (rect : Rect) (partition : Partition) (side : Side) : Type 0 where
  pub low_left : side_of partition (point_at rect.x0 rect.y0) ≡ side
  pub low_right : side_of partition (point_at rect.x1 rect.y0) ≡ side
  pub high_left : side_of partition (point_at rect.x0 rect.y1) ≡ side
  pub high_right : side_of partition (point_at rect.x1 rect.y1) ≡ side

-- each whole point of the rectangle has this side of the partition
abbrev pub IsWholeSide : Rect → Partition → Side → Type 0
IsWholeSide rect partition side =
    (point : Point) → Holds rect point → side_of partition point ≡ side
