use Rattle.std.proofs.Common.{arith}
use Rattle.map_cells.specs.Cells.{Cells}
use Rattle.map_cells.proofs.CellLemmas.{row_place}
use Rattle.map_cells.proofs.cells.Cells.same_end.Goals as goal

pub same_end-requires-clause-within : goal.same_end-requires-clause-within
same_end-requires-clause-within g c =
    let cells : Cells = record { grid = c.self.inside.grid; shown = c.self.inside.seen } in
    let row = rw (← c.self.view_is) at c.requires.row in
    row_place cells c.self.inside.columns c.self.inside.rows c.args.j c.self.invariant.0 c.self.invariant.1 c.self.invariant.2
    (omega (arith, row, c.self.invariant.2))
