use Rattle.std.proofs.Common.{◌∙◌, sym}
use Rattle.std.proofs.lemmas.List.{length-map}
use Rattle.atlas_page.specs.Items.{code_part}
use Rattle.level_codes.specs.Codes.{report_order}
use Rattle.lens_engines.proofs.OrderLemmas.{order-whole}
use Rattle.atlas_page.proofs.items.CodePartsTextParts.count.Goals as goal

pub returns : goal.returns
returns c = sym (length-map report_order (code_part c.args.self.now.counts.now) ∙ order-whole)
