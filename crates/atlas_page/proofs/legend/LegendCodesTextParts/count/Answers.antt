use Rattle.std.proofs.Common.{◌∙◌, sym}
use Rattle.std.proofs.lemmas.List.{length-map}
use Rattle.atlas_page.specs.Legend.{legend_code}
use Rattle.level_codes.specs.Codes.{report_order}
use Rattle.lens_engines.proofs.OrderLemmas.{order-whole}
use Rattle.atlas_page.proofs.legend.LegendCodesTextParts.count.Goals as goal

pub returns : goal.returns
returns c = sym (length-map report_order (legend_code c.args.self.now.rows.now) ∙ order-whole)
