use Rattle.std.proofs.Common.{◌≡◌, ◌-◌, ◌^◌, take}
use Rattle.std.specs.Prelude.{min, sum}
use Rattle.lens_engines.proofs.report_counts.total.Given as goal

abbrev pub invariant-counts : goal.invariant-counts
invariant-counts l = l.sum ≡ min (sum (take l.i l.counts)) (2 ^ 64 - 1)
