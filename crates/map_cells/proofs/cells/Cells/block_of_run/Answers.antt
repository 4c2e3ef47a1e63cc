use Rattle.std.proofs.Common.{◌∙◌, ◌-◌, ◌<◌, refl, sym, arith}
use Rattle.std.proofs.lemmas.Bool.{false≢true}
use Rattle.std.proofs.lemmas.Option.{none-some}
use Rattle.map_cells.specs.Blocks.{IsRun}
use Rattle.map_cells.specs.Cells.{cell}
use Rattle.map_cells.proofs.BlockLemmas.{block-told, none-begun, none-run}
use Rattle.map_cells.proofs.cells.Cells.block_of_run.Goals as goal
use Rattle.map_cells.proofs.cells.Cells.block_of_run.Goals.{else-j-gt0-via-then-j-gt0+else-has_run, else-j-gt0-via-else-j-gt0}

pub has_run-requires-clause-some : goal.has_run-requires-clause-some
has_run-requires-clause-some g c = ((c.in_ok-width.ensures.run c.in_ok-width.width).0 refl).some

pub run_rows-end-requires-clause-run : goal.run_rows-end-requires-clause-run
run_rows-end-requires-clause-run g c = (c.in_ok-width.ensures.run c.in_ok-width.width).0 refl

pub returns-in_err-width : goal.returns-in_err-width
returns-in_err-width g c =
    rw c.from_residual.ensures
    (none-run (cell c.args.self.now) _ _ _ c.requires.here (λ n run. none-some n ((c.in_err-width.ensures.run n).1 run)))

pub returns-then-has_run : goal.returns-then-has_run
returns-then-has_run g c =
    none-begun (cell c.args.self.now) _ _ _ _ c.requires.here ((c.in_ok-width.ensures.run _).0 refl) c.if-j-gt0.true
    (c.has_run.ensures.0 c.if-has_run.true)

pub returns : goal.returns
returns g c =
    let seen = cell c.args.self.now in
    let s = c.args.sector in
    let i = c.args.i in
    let j = c.args.j in
    let n = c.in_ok-width.width in
    let below : 0 < j → ¬ IsRun seen s i (j - 1) n = elim c.else-j-gt0.branch [
      | else-j-gt0-via-then-j-gt0+else-has_run w ↦ λ _ run. false≢true (sym w.if-has_run.false ∙ w.has_run.ensures.1 run)
      | else-j-gt0-via-else-j-gt0 w ↦ λ above. absurd (omega (arith, above, w.if-j-gt0.false))
    ] in
    let rows = c.run_rows-end.ensures in
    block-told seen s i j n c.run_rows-end.result _ (c.requires.all i (omega arith) c.requires.column)
    ((c.in_ok-width.ensures.run n).0 refl) below rows.from rows.all rows.end refl refl refl refl
