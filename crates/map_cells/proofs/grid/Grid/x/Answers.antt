use Rattle.std.proofs.Common.{FitsSigned, w16, rules}
use Rattle.map_cells.proofs.RowLemmas.{point_fits, point_read}
use Rattle.map_cells.proofs.grid.Grid.x.Goals as goal

pub overflow_add-result : goal.overflow_add-result
overflow_add-result c =
    let fits : FitsSigned w16 c.x0.result = search rules in
    point_fits _ _ _ _ _ fits c.x0.ensures.value c.from.ensures c.middle.ensures.value c.middle.ensures.few

pub returns : goal.returns
returns c =
    let fits : FitsSigned w16 c.x0.result = search rules in
    rw (← c.self.view_is) (point_read _ _ _ _ _ fits c.x0.ensures.value c.from.ensures c.middle.ensures.value c.middle.ensures.few)
