use Rattle.std.proofs.Common.{◌∙◌, sym, ap, arith}
use Rattle.map_cells.specs.Cells.{Cells, cell}
use Rattle.map_cells.proofs.CellLemmas.{cell-beside}
use Rattle.map_cells.proofs.cells.Cells.columns.Goals as goal

pub returns-clause-beside : goal.returns-clause-beside
returns-clause-beside g c = λ i j past.
    let cells : Cells = record { grid = c.self.inside.grid; shown = c.self.inside.seen } in
    ap (λ (seen : Cells). cell seen i j) (sym c.self.view_is) ∙ cell-beside cells i j (omega (arith, past, c.self.invariant.1))
