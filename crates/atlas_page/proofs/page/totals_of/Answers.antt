use Rattle.std.proofs.Common.{◌∙◌, ap}
use Rattle.atlas_page.proofs.TotalLemmas.{summed}
use Rattle.lens_engines.specs.Totals.{totals_with}
use Rattle.atlas_page.proofs.page.totals_of.Goals as goal

pub loop-row-preserved : goal.loop-row-preserved
loop-row-preserved c =
    summed c.args.rows.now c.loop-row.row-index c.row-item.result c.loop-row.sum c.with-sum.result c.loop-row-test.true c.row-item.is c.loop-row.invariant
    (c.with-sum.ensures ∙ ap (totals_with c.loop-row.sum) c.totals.ensures)
