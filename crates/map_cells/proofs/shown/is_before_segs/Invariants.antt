use Rattle.std.proofs.Common.{ℕ, ◌<◌, ◌≤◌}
use Rattle.map_cells.specs.Shown.{IsBehind}
use Rattle.map_cells.proofs.shown.is_before_segs.Given as goal

abbrev pub invariant-loop-i : goal.invariant-loop-i
invariant-loop-i l = (k : ℕ) → l.initial.i ≤ k → k < l.i → ¬ IsBehind l.level k l.point
