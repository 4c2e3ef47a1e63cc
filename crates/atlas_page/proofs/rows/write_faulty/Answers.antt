use Rattle.std.proofs.Common.{ℕ, List, subst}
use Rattle.line_io.specs.Writes.{Writes}
use Rattle.atlas_page.proofs.ItemLemmas.{chosen}
use Rattle.atlas_page.specs.Rows.{is_faulty, row_text}
use Rattle.atlas_page.proofs.rows.write_faulty.Goals as goal

pub returns : goal.returns
returns g c =
    subst (λ (text : List ℕ). Writes (g.W.Sink.state c.args.out.now) (g.W.Sink.state c.write_parts.new.out) text c.write_parts.result)
    (chosen is_faulty row_text c.args.rows.now) c.write_parts.ensures
