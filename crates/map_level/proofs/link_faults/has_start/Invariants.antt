use Rattle.std.proofs.Common.{ℕ, ◌<◌}
use Rattle.map_level.specs.LinkFaults.{IsStart}
use Rattle.map_level.proofs.link_faults.has_start.Given as goal

abbrev pub invariant-loop-k : goal.invariant-loop-k
invariant-loop-k l = (j : ℕ) → j < l.k → ¬ IsStart l.level j
