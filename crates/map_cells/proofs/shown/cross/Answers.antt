use Rattle.std.proofs.Common.{FitsSigned, w32, w64, ◌-ℤ◌, refl, arith}
use Rattle.std.proofs.lemmas.Int.{ints, to_z-of_z}
use Rattle.map_cells.proofs.shown.cross.Goals as goal

pub overflow_sub-result : goal.overflow_sub-result
overflow_sub-result c = omega (arith, ints, c.product-right.ensures.size, c.product-left.ensures.size)

pub returns : goal.returns
returns c =
    let right : FitsSigned w64 c.product-right.result = omega (arith, ints, c.product-right.ensures.size) in
    let left : FitsSigned w64 c.product-left.result = omega (arith, ints, c.product-left.ensures.size) in
    let difference : FitsSigned w64 (c.product-right.result -ℤ c.product-left.result) =
    omega (arith, ints, c.product-right.ensures.size, c.product-left.ensures.size) in
    let rise_y : FitsSigned w64 c.rise.result = omega (arith, ints, c.rise.ensures.size) in
    let rise_x : FitsSigned w64 c.rise-2.result = omega (arith, ints, c.rise-2.ensures.size) in
    let run_x : FitsSigned w64 c.run.result = omega (arith, ints, c.run.ensures.size) in
    let run_y : FitsSigned w64 c.run-2.result = omega (arith, ints, c.run-2.ensures.size) in
    let px : FitsSigned w32 c.x.result = omega (arith, ints, c.x.ensures.in_range) in
    let py : FitsSigned w32 c.y.result = omega (arith, ints, c.y.ensures.in_range) in
    let e = simp to_z-of_z at c.product-right.ensures.value in
    let f = simp to_z-of_z at c.product-left.ensures.value in
    let to_x = simp to_z-of_z at c.run.ensures.value in
    let to_y = simp to_z-of_z at c.run-2.ensures.value in
    simp to_z-of_z (rw (e, f, to_x, to_y, c.rise.ensures.value, c.rise-2.ensures.value, c.x.ensures.value, c.y.ensures.value) refl)
