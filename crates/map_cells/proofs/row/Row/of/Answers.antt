use Rattle.std.proofs.Common.{◌≡◌, ◌+◌, ◌-◌, FitsSigned, w32, refl, rules, arith}
use Rattle.std.proofs.lemmas.Int.{to_z-of_z}
use Rattle.map_cells.specs.Grid.{columns_of}
use Rattle.map_cells.proofs.RowLemmas.{row_in_range}
use Rattle.map_cells.proofs.row.Row.of.Goals as goal

pub invariant_of-result : goal.invariant_of-result
invariant_of-result c =
    let y : FitsSigned w32 c.y-y.result = search rules in
    let x : FitsSigned w32 c.x.result = search rules in
    let x_last : FitsSigned w32 c.x-2.result = search rules in
    let first = simp to_z-of_z at (c.in_ok-_first.ensures.some.0 refl) in
    let last = simp to_z-of_z at (c.in_ok-_last.ensures.some.0 refl) in
    let wide : columns_of c.args.grid ≡ c.columns.result - 1 + 1 = omega (arith, c.columns.ensures.value) in
    row_in_range c.args.grid c.args.j (c.columns.result - 1) c.requires wide
    (rw c.x.ensures at first.0) (rw c.x-2.ensures at last.0) (rw c.y-y.ensures at first.1)
