-- Points and their range (R_PointOnSide of r_main.c).
use Rattle.std.specs.Prelude.{ℤ, pos, neg_ℤ, ◌≤ℤ◌}

-- a point of the map, in whole map units
pub record Point : Type 0 where
  pub x : ℤ
  pub y : ℤ

-- the point in column x and row y
abbrev pub point_at : ℤ → ℤ → Point
point_at x y = record { x = x; y = y }

-- a coordinate for which the arithmetic of R_PointOnSide of r_main.c doesn't wrap
pub record IsInRange (z : ℤ) : Type 0 where
  pub least : neg_ℤ (pos 16384) ≤ℤ z
  pub greatest : z ≤ℤ pos 16383
