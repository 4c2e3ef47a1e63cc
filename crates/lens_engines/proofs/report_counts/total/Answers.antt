use Rattle.std.proofs.Common.{◌-◌, ◌^◌, ap, ◌∙◌, arith}
use Rattle.std.specs.Prelude.{min, sum}
use Rattle.std.proofs.lemmas.List.{take_all}
use Rattle.lens_engines.proofs.ReportCountLemmas.{total-more}
use Rattle.lens_engines.proofs.report_counts.total.Goals as goal

pub counts-preserved : goal.counts-preserved
counts-preserved c =
    rw (c.saturating_add-sum.ensures, c.counts.invariant) (total-more c.args.counts.now c.counts.i (2 ^ 64 - 1) c.counts-test.true)

pub returns : goal.returns
returns c = c.counts.invariant ∙ ap (λ xs. min (sum xs) (2 ^ 64 - 1)) (take_all c.counts.i c.args.counts.now (omega (arith, c.counts-test.false)))
