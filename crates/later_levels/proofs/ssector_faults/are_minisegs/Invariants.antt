use Rattle.std.proofs.Common.{◌≡◌, ℕ, ◌<◌, ◌≤◌, None}
use Rattle.later_levels.specs.SegFaults.{line_in}
use Rattle.later_levels.proofs.ssector_faults.are_minisegs.Given as goal

abbrev pub invariant-loop-i : goal.invariant-loop-i
invariant-loop-i l = (k : ℕ) → l.first ≤ k → k < l.i → line_in l.nodes k ≡ None
