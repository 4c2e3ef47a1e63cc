use Rattle.std.proofs.Common.{◌<◌, ap, ◌∙◌, arith}
use Rattle.std.proofs.lemmas.List.{length-map}
use Rattle.atlas_page.proofs.ItemLemmas.{text_at}
use Rattle.atlas_page.specs.Legend.{legend_code}
use Rattle.level_codes.specs.Codes.{no_row, report_order}
use Rattle.level_codes.specs.declared.table.TheConstants.{REPORT_COUNT}
use Rattle.lens_engines.proofs.OrderLemmas.{code-order, order-whole}
use Rattle.atlas_page.proofs.legend.LegendCodesTextParts.write.Goals as goal

pub write_code-requires-clause-there : goal.write_code-requires-clause-there
write_code-requires-clause-there g c =
    omega (arith, c.requires.there, length-map report_order (legend_code c.args.self.now.rows.now), order-whole)

pub returns : goal.returns
returns g c =
    let part = legend_code c.args.self.now.rows.now in
    let below : c.args.number < REPORT_COUNT = omega (arith, c.requires.there, length-map report_order part, order-whole) in
    rw (text_at part report_order c.args.number no_row.code (rw order-whole below) ∙ ap part (code-order c.args.number below))
    c.write_code.ensures
