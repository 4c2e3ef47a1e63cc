use Rattle.std.proofs.Common.{arith}
use Rattle.map_cells.specs.Cells.{Cells}
use Rattle.map_cells.proofs.CellLemmas.{cell_place}
use Rattle.map_cells.proofs.cells.Cells.known_end.Goals as goal

pub known_end-requires : goal.known_end-requires
known_end-requires g c =
    let cells : Cells = record { grid = c.self.inside.grid; shown = c.self.inside.seen } in
    let column = rw (← c.self.view_is) at c.requires.column in
    let row = rw (← c.self.view_is) at c.requires.row in
    cell_place cells c.self.inside.columns c.self.inside.rows c.args.i c.args.j c.self.invariant.0 c.self.invariant.1 c.self.invariant.2
    (omega (arith, column, c.self.invariant.1)) (omega (arith, row, c.self.invariant.2))
