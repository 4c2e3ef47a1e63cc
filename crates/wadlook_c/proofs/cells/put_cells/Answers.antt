use Rattle.std.proofs.Common.{◌≡◌, ◌∙◌, ◌/◌, ◌%◌, ℤ, Option, Some, FitsSigned, to_z, of_z, w32, ap, arith, rules}
use Rattle.std.proofs.lemmas.Int.{to_z-of_z}
use Rattle.map_cells.specs.Cells.{cell}
use Rattle.map_cells.specs.Grid.{columns_of}
use Rattle.wadlook_c.proofs.SeenLemmas.{sees_all}
use Rattle.wadlook_c.proofs.SliceLemmas.{set_more}
use Rattle.wadlook_c.specs.Seen.{cell_number}
use Rattle.wadlook_c.proofs.cells.put_cells.Goals as goal

pub loop-at-preserved : goal.loop-at-preserved
loop-at-preserved g c =
    let cells = c.args.cells.now in
    let at = c.loop-at.at in
    let fits : FitsSigned w32 c.cell_number.result = search rules in
    let wide : c.from-columns.result ≡ columns_of cells.grid = c.from-columns.ensures ∙ c.columns.ensures.value ∙ ap columns_of c.grid.ensures in
    let here : to_z w32 (of_z w32 c.cell_number.result) ≡ cell_number (cell cells (at % columns_of cells.grid) (at / columns_of cells.grid)) =
    to_z-of_z w32 c.cell_number.result fits ∙ c.cell_number.ensures
    ∙ ap cell_number (c.get.ensures.value ∙ ap (λ w. cell cells (at % w) (at / w)) wide) in
    set_more at (λ n (there : Option ℤ). there ≡ Some (cell_number (cell cells (n % columns_of cells.grid) (n / columns_of cells.grid)))) c.loop-at.out
    (to_z w32 (of_z w32 c.cell_number.result)) (omega arith) c.loop-at.invariant (ap Some here)

pub returns : goal.returns
returns g c = sees_all c.args.cells.now c.loop-at.out c.loop-at.at (omega arith) c.loop-at.invariant
