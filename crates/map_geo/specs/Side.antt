-- The side of a partition on which a point lies (R_PointOnSide of r_main.c).
use Rattle.std.specs.Prelude.{ℤ, pos, ◌-ℤ◌, ◌*ℤ◌, Bool, true, ◌&&◌}
use Rattle.std.specs.Ordering.{int_cmp, int_eq}
use Rattle.std.specs.declared.cmp.Ordering.{Ordering}
use Rattle.std.specs.declared.cmp.Ordering.TheVariants.{Less, Equal, Greater}
use Rattle.map_geo.specs.declared.sides.Side.{Side}
use Rattle.map_geo.specs.declared.sides.Side.TheVariants.{Front, Back}
use Rattle.map_geo.specs.Partition.{Partition}
use Rattle.map_geo.specs.Point.{Point}

-- the side that isn't this one
abbrev pub other : Side → Side
other Front = Back
other Back = Front

-- above 0 in front of the partition, below 0 behind it, 0 on its line: left - right
-- in R_PointOnSide of r_main.c
abbrev pub cross : Partition → Point → ℤ
cross partition point =
    partition.dy *ℤ (point.x -ℤ partition.x) -ℤ partition.dx *ℤ (point.y -ℤ partition.y)

-- the point is the partition's own (x, y)
abbrev pub is_origin : Partition → Point → Bool
is_origin partition point = int_eq point.x partition.x && int_eq point.y partition.y

-- the side of a point on the line itself (ours; R_PointOnSide of r_main.c gives the same for whole
-- units): how dx and dy stand to 0, and whether it is the origin
abbrev pub side_of_tie : Ordering → Ordering → Bool → Side
side_of_tie Equal Greater _ = Back
side_of_tie Equal _ _ = Front
side_of_tie Less Equal _ = Back
side_of_tie Greater Equal _ = Front
side_of_tie Less Greater true = Front
side_of_tie _ _ _ = Back

-- that side, of a partition and a point
abbrev pub side_on_line : Partition → Point → Side
side_on_line partition point =
    side_of_tie (int_cmp partition.dx (pos 0)) (int_cmp partition.dy (pos 0))
    (is_origin partition point)

-- the side by how the cross product stands to 0, and the side that a point on the line has
abbrev pub side_by_cross : Ordering → Side → Side
side_by_cross Greater _ = Front
side_by_cross Equal on_line = on_line
side_by_cross Less _ = Back

-- the side of the partition on which a point lies (R_PointOnSide of r_main.c)
unfoldable pub side_of : Partition → Point → Side
side_of partition point =
    side_by_cross (int_cmp (cross partition point) (pos 0)) (side_on_line partition point)
