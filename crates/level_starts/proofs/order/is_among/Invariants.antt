use Rattle.std.proofs.Common.{ℕ, ◌<◌, ◌≤◌}
use Rattle.wad_dir.specs.Entries.{names}
use Rattle.level_starts.specs.Order.{HasNameOf}
use Rattle.level_starts.proofs.order.is_among.Given as goal

abbrev pub invariant-loop-k : goal.invariant-loop-k
invariant-loop-k g l = (k : ℕ) → 1 ≤ k → k < l.k → ¬ HasNameOf (names l.set) l.g k l.j
