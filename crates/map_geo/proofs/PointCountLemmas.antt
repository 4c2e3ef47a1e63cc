-- A coordinate fits a word of the machine, and a rectangle has few points.
use Rattle.std.proofs.Common.{ℤ, pos, ◌≤◌, ◌≤ℤ◌, ◌<ℤ◌, ◌≡◌, FitsSigned, to_z, of_z, w32, arith}
use Rattle.std.proofs.lemmas.Int.{ints, unsigned_abs-mul}
use Rattle.std.specs.Prelude.{unsigned_abs, ◌*ℤ◌, negsuc}
use Rattle.map_geo.specs.Point.{IsInRange}
use Rattle.map_geo.specs.Rect.{Rect, IsRect, point_count, span}
use Rattle.map_geo.proofs.ProductLemmas.{coordinate_read}

pub in_fits : (z : ℤ) → IsInRange z → FitsSigned w32 z
in_fits z h = omega (arith, ints, h.least, h.greatest)

-- a coordinate that the code was told and reads
pub in_read : (z told : ℤ) → told ≡ z → IsInRange z → IsInRange (to_z w32 (of_z w32 told))
in_read z told e h = rw e (coordinate_read z h)

abs_le : (z : ℤ) → pos 0 ≤ℤ z → z ≤ℤ pos 1048576 → unsigned_abs z ≤ 1048576
abs_le z h k = omega (arith, ints)

pos_product : (a b : ℤ) → pos 0 <ℤ a → pos 0 <ℤ b → pos 0 ≤ℤ (a *ℤ b)
pos_product (pos m) (pos n) h k = omega (arith, ints)
pos_product (pos m) (negsuc n) h k = absurd (omega (arith, ints))
pos_product (negsuc m) b h k = absurd (omega (arith, ints))

span_pos : (a b : ℤ) → a ≤ℤ b → pos 0 <ℤ span a b
span_pos a b h = omega (arith, ints)

pub few_points : (b : Rect) → IsRect b → point_count b ≤ 1048576
few_points b valid =
    let product = abs_le (span b.x0 b.x1 *ℤ span b.y0 b.y1) (pos_product _ _ (span_pos b.x0 b.x1 valid.columns.ordered) (span_pos b.y0 b.y1 valid.rows.ordered)) valid.points in
    omega (arith, rw (unsigned_abs-mul (span b.x0 b.x1) (span b.y0 b.y1)) at product)
