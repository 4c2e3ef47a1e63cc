use Rattle.std.proofs.Common.{ℕ, ◌<◌}
use Rattle.map_warnings.specs.Starts.{IsOfKind}
use Rattle.map_warnings.proofs.starts.has_some.Given as goal

abbrev pub invariant-loop-k : goal.invariant-loop-k
invariant-loop-k l = (j : ℕ) → j < l.k → ¬ IsOfKind l.level l.kind j
