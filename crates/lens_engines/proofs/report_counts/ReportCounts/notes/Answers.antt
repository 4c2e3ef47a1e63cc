use Rattle.std.proofs.Common.{◌∙◌}
use Rattle.lens_engines.proofs.ReportCountLemmas.{notes-uncapped}
use Rattle.lens_engines.proofs.report_counts.ReportCounts.notes.Goals as goal

pub returns : goal.returns
returns c = rw (← c.self.view_is) (c.total.ensures ∙ notes-uncapped c.self.inside.counts c.self.invariant)
