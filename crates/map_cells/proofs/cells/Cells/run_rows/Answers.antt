use Rattle.std.proofs.Common.{◌≡◌, ◌∙◌, None, Some, sym, arith}
use Rattle.map_cells.proofs.cells.Cells.run_rows.Goals as goal

pub returns-clause-end : goal.returns-clause-end
returns-clause-end g c = λ run.
    let here = run.all c.args.i (omega arith) (omega (arith, run.some)) in
    let nothing = c.rows.ensures.above c.args.i c.rows.result (omega arith) in
    let both : None ≡ Some c.args.sector = sym nothing ∙ here in
    cc
