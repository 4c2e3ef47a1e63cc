use Rattle.std.proofs.Common.{◌-◌, ◌^◌, ap, ◌∙◌}
use Rattle.std.specs.Prelude.{min, sum}
use Rattle.lens_engines.proofs.ReportCountLemmas.{warnings-behind}
use Rattle.lens_engines.proofs.report_counts.ReportCounts.warnings.Goals as goal

pub returns : goal.returns
returns c = rw (← c.self.view_is) (c.total.ensures ∙ ap (λ xs. min (sum xs) (2 ^ 64 - 1)) (warnings-behind c.self.inside.counts c.self.invariant))
