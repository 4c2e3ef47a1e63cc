use Rattle.std.proofs.Common.{subst}
use Rattle.line_io.specs.Writes.{Writes}
use Rattle.lens_texts.specs.Parts.{joined}
use Rattle.atlas_page.specs.Page.{head_parts}
use Rattle.lens_engines.specs.declared.totals.Totals.{Totals}
use Rattle.atlas_page.proofs.page.write_head.Goals as goal

pub returns : goal.returns
returns g c =
    subst (λ (totals : Totals). Writes (g.W.Sink.state c.args.out.now) (g.W.Sink.state c.write_parts.new.out) (joined (head_parts c.args.page.now.head.now c.args.page.now.files c.args.page.now.warnings c.args.page.now.rows.now totals)) c.write_parts.result)
    c.totals_of-totals.ensures c.write_parts.ensures
