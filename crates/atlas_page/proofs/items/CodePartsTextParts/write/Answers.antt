use Rattle.std.proofs.Common.{◌<◌, ap, ◌∙◌, arith}
use Rattle.std.proofs.lemmas.List.{length-map}
use Rattle.atlas_page.proofs.ItemLemmas.{text_at}
use Rattle.atlas_page.specs.Items.{code_part}
use Rattle.level_codes.specs.Codes.{no_row, report_order}
use Rattle.level_codes.specs.declared.table.TheConstants.{REPORT_COUNT}
use Rattle.lens_engines.proofs.OrderLemmas.{code-order, order-whole}
use Rattle.atlas_page.proofs.items.CodePartsTextParts.write.Goals as goal

pub write_code_part-requires-clause-there : goal.write_code_part-requires-clause-there
write_code_part-requires-clause-there g c =
    omega (arith, c.requires.there, length-map report_order (code_part c.args.self.now.counts.now), order-whole)

pub returns : goal.returns
returns g c =
    let part = code_part c.args.self.now.counts.now in
    let below : c.args.number < REPORT_COUNT = omega (arith, c.requires.there, length-map report_order part, order-whole) in
    rw (text_at part report_order c.args.number no_row.code (rw order-whole below) ∙ ap part (code-order c.args.number below))
    c.write_code_part.ensures
