-- Laws of sides along a row, along a column and in a rectangle (ours).
use Rattle.std.specs.Prelude.{ℤ, ◌≤ℤ◌, ◌≡◌}
use Rattle.map_geo.specs.declared.sides.Side.{Side}
use Rattle.map_geo.specs.Point.{point_at}
use Rattle.map_geo.specs.Partition.{Partition}
use Rattle.map_geo.specs.Side.{side_of}
use Rattle.map_geo.specs.Rect.{Rect, AreCornersOn, IsWholeSide}

-- where two points of a row have one side, so has each whole point between them
abbrev pub SidesAlongRows : Type 0
SidesAlongRows =
    (partition : Partition) (y x0 x x1 : ℤ) → x0 ≤ℤ x → x ≤ℤ x1 →
    side_of partition (point_at x0 y) ≡ side_of partition (point_at x1 y) →
    side_of partition (point_at x y) ≡ side_of partition (point_at x0 y)

-- the same in a column
abbrev pub SidesAlongColumns : Type 0
SidesAlongColumns =
    (partition : Partition) (x y0 y y1 : ℤ) → y0 ≤ℤ y → y ≤ℤ y1 →
    side_of partition (point_at x y0) ≡ side_of partition (point_at x y1) →
    side_of partition (point_at x y) ≡ side_of partition (point_at x y0)

-- where the four corners of a rectangle have one side, so has each whole point in it
abbrev pub SidesByCorners : Type 0
SidesByCorners =
    (rect : Rect) (partition : Partition) (side : Side) →
    AreCornersOn rect partition side → IsWholeSide rect partition side
