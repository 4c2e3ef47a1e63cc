use Rattle.std.proofs.Common.{◌∙◌}
use Rattle.lens_engines.proofs.ReportCountLemmas.{faults-uncapped}
use Rattle.lens_engines.proofs.report_counts.ReportCounts.faults.Goals as goal

pub returns : goal.returns
returns c = rw (← c.self.view_is) (c.total.ensures ∙ faults-uncapped c.self.inside.counts c.self.invariant)
