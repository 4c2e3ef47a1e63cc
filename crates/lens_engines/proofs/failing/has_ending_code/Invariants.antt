use Rattle.std.proofs.Common.{ℕ, ◌<◌, get_or}
use Rattle.map_level.specs.declared.finding.Code.TheVariants.{F1}
use Rattle.lens_engines.specs.Counts.{finding_order}
use Rattle.lens_engines.specs.Failing.{IsEndingCode}
use Rattle.lens_engines.proofs.failing.has_ending_code.Given as goal

-- the game ends at no code so far
abbrev pub invariant-loop-rank : goal.invariant-loop-rank
invariant-loop-rank l = (k : ℕ) → k < l.rank → ¬ IsEndingCode l.counts (get_or finding_order k F1)
