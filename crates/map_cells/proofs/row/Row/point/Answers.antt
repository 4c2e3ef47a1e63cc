use Rattle.map_cells.proofs.RowLemmas.{read_in_range}
use Rattle.map_cells.proofs.row.Row.point.Goals as goal

pub at-requires-clause-x_in : goal.at-requires-clause-x_in
at-requires-clause-x_in c =
    let within = rw (← c.self.view_is) at c.requires in
    let x = c.self.invariant.columns c.args.i within in
    rw (read_in_range _ _ c.x.ensures x) x

pub at-requires-clause-y_in : goal.at-requires-clause-y_in
at-requires-clause-y_in c = rw (read_in_range _ _ c.y.ensures c.self.invariant.height) c.self.invariant.height
