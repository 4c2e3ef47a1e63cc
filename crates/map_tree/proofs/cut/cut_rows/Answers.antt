use Rattle.std.proofs.Common.{ℤ, pos, ◌+ℤ◌, ◌≤ℤ◌, FitsSigned, w32, refl, arith}
use Rattle.std.proofs.lemmas.Int.{ints, to_z-of_z}
use Rattle.map_geo.specs.Point.{IsInRange}
use Rattle.map_geo.specs.Rect.{Rect}
use Rattle.map_tree.specs.Cuts.{IsMiddleRow}
use Rattle.map_tree.proofs.cut.cut_rows.Goals as goal

next_fits : (y : ℤ) → IsInRange y → FitsSigned w32 (y +ℤ pos 1)
next_fits y h = omega (arith, ints, h.least, h.greatest)

fits : (y : ℤ) → IsInRange y → FitsSigned w32 y
fits y h = omega (arith, ints, h.least, h.greatest)

next_within : (b : Rect) (y : ℤ) → IsMiddleRow b y → (y +ℤ pos 1) ≤ℤ b.y1
next_within b y m = omega (arith, ints, m.more, m.middle.lower)

-- the row after the middle one is not below the first
next_from_first : (b : Rect) (y : ℤ) → IsMiddleRow b y → b.y0 ≤ℤ (y +ℤ pos 1)
next_from_first b y m = omega (arith, ints, m.more, m.middle.upper)

pub overflow_add-y : goal.overflow_add-y
overflow_add-y c =
    let y = fits _ c.middle_row-y.ensures.in_range in
    simp to_z-of_z (next_fits _ c.middle_row-y.ensures.in_range)

pub rows_from-requires-clause-from : goal.rows_from-requires-clause-from
rows_from-requires-clause-from c =
    let y = fits _ c.middle_row-y.ensures.in_range in
    let n = next_fits _ c.middle_row-y.ensures.in_range in
    simp to_z-of_z (next_from_first _ _ c.middle_row-y.ensures.middle)

pub rows_from-requires-clause-to : goal.rows_from-requires-clause-to
rows_from-requires-clause-to c =
    let y = fits _ c.middle_row-y.ensures.in_range in
    let n = next_fits _ c.middle_row-y.ensures.in_range in
    simp to_z-of_z (next_within _ _ c.middle_row-y.ensures.middle)

pub returns : goal.returns
returns c =
    let y = fits _ c.middle_row-y.ensures.in_range in
    let n = next_fits _ c.middle_row-y.ensures.in_range in
    let low = simp to_z-of_z at c.rows_to.ensures in
    let high = simp to_z-of_z at c.rows_from.ensures in
    record { y = c.middle_row-y.result; middle = c.middle_row-y.ensures.middle; first = rw low; second = rw high; tests = refl }
