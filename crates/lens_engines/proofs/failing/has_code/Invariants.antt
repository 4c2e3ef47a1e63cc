use Rattle.std.proofs.Common.{ℕ, ◌<◌}
use Rattle.level_codes.specs.Codes.{code_at}
use Rattle.lens_engines.specs.Failing.{IsFailing}
use Rattle.lens_engines.proofs.failing.has_code.Given as goal

-- no code so far is
abbrev pub invariant-loop-rank : goal.invariant-loop-rank
invariant-loop-rank l = (k : ℕ) → k < l.rank → ¬ IsFailing l.failing l.counts (code_at k)
