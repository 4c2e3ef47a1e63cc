use Rattle.std.proofs.Common.{◌≡◌, subst, arith}
use Rattle.map_cells.specs.Cells.{cells_at}
use Rattle.map_cells.specs.Grid.{rows_of}
use Rattle.map_cells.proofs.CellLemmas.{AreRows, AreRows-none, AreRows-more, AreCells-all}
use Rattle.map_cells.proofs.cells.seen_by_points.Goals as goal

pub loop-j-init : goal.loop-j-init
loop-j-init g c = rw c.in_ok-seen.ensures (AreRows-none c.args.shown.now c.args.grid)

pub loop-j-preserved : goal.loop-j-preserved
loop-j-preserved g c =
    AreRows-more c.args.shown.now c.args.grid c.loop-j.j c.loop-j.seen c.push_each.new.seen
    c.loop-j.invariant c.in_ok-push_each.ensures

pub returns : goal.returns
returns g c =
    let at : c.loop-j.j ≡ rows_of c.args.grid = omega (arith, c.rows-j-end.ensures.value) in
    let rows = subst (λ n. AreRows c.args.shown.now c.args.grid n c.loop-j.seen) at c.loop-j.invariant in
    let valid = c.columns.ensures.valid in
    AreCells-all c.args.shown.now (cells_at c.args.grid c.loop-j.seen)
    (record { long = rows.long; columns = valid.columns; rows = valid.rows }) rows
