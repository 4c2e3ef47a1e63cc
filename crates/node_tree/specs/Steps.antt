-- The steps of a descent (R_PointInSubsector of r_main.c).
use Rattle.std.specs.Prelude.{◌≡◌, ℕ, Some}
use Rattle.map_geo.specs.declared.sides.Side.{Side}
use Rattle.map_geo.specs.Point.{Point}
use Rattle.node_tree.specs.Shape.{Shape, side_at}
use Rattle.node_tree.specs.Slots.{child_slot}

-- from a node a point goes to the place, by its number in one row, on the side on which it lies
pub record IsStep (shape : Shape) (point : Point) (n next : ℕ) : Type 0 where
  pub side : Side
  pub on : side_at shape n point ≡ Some side
  pub below : child_slot shape n side ≡ Some next
