use Rattle.std.proofs.Common.{ℕ, List, subst}
use Rattle.std.specs.Prelude.{nat_lt}
use Rattle.line_io.specs.Writes.{Writes}
use Rattle.atlas_page.proofs.ItemLemmas.{chosen}
use Rattle.atlas_page.specs.Items.{code_item}
use Rattle.level_codes.specs.Codes.{report_order}
use Rattle.lens_engines.specs.ReportCounts.{count_of}
use Rattle.atlas_page.proofs.items.write_codes.Goals as goal

pub returns : goal.returns
returns g c =
    let counts = c.args.counts.now in
    subst (λ (text : List ℕ). Writes (g.W.Sink.state c.args.out.now) (g.W.Sink.state c.write_parts.new.out) text c.write_parts.result)
    (chosen (λ code. nat_lt 0 (count_of counts code)) (λ code. code_item code (count_of counts code)) report_order) c.write_parts.ensures
