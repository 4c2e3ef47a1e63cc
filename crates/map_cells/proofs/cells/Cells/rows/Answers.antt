use Rattle.std.proofs.Common.{◌∙◌, sym, ap, arith}
use Rattle.map_cells.specs.Cells.{Cells, cell}
use Rattle.map_cells.proofs.CellLemmas.{cell-above}
use Rattle.map_cells.proofs.cells.Cells.rows.Goals as goal

pub returns-clause-above : goal.returns-clause-above
returns-clause-above g c = λ i j past.
    let cells : Cells = record { grid = c.self.inside.grid; shown = c.self.inside.seen } in
    ap (λ (seen : Cells). cell seen i j) (sym c.self.view_is)
    ∙ cell-above cells i j c.self.invariant.0 (omega (arith, past, c.self.invariant.2))
