use Rattle.std.proofs.Common.{ℕ, List, subst}
use Rattle.line_io.specs.Writes.{Writes}
use Rattle.atlas_page.proofs.ItemLemmas.{chosen}
use Rattle.atlas_page.specs.Legend.{is_found, legend_item}
use Rattle.level_codes.specs.Codes.{report_order}
use Rattle.atlas_page.proofs.legend.write_found.Goals as goal

pub returns : goal.returns
returns g c =
    subst (λ (text : List ℕ). Writes (g.W.Sink.state c.args.out.now) (g.W.Sink.state c.write_parts.new.out) text c.write_parts.result)
    (chosen (is_found c.args.rows.now) legend_item report_order) c.write_parts.ensures
