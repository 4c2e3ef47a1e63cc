use Rattle.std.proofs.Common.{sym}
use Rattle.map_cells.specs.Cells.{cell}
use Rattle.map_cells.proofs.BlockLemmas.{none-nothing, none-run}
use Rattle.map_cells.proofs.cells.Cells.block_at.Goals as goal

pub returns-in_err-sector : goal.returns-in_err-sector
returns-in_err-sector g c =
    rw c.from_residual.ensures (none-nothing (cell c.args.self.now) _ _ (sym c.in_err-sector.ensures.value))

pub returns-then-goes_on : goal.returns-then-goes_on
returns-then-goes_on g c =
    let left = c.goes_on.ensures.0 c.if-goes_on.true in
    none-run (cell c.args.self.now) _ _ _ (sym c.in_ok-sector.ensures.value) (λ n run. run.left left.0 left.1)
