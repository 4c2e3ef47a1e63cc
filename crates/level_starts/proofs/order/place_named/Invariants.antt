use Rattle.std.proofs.Common.{ℕ, ◌<◌, ◌≤◌}
use Rattle.wad_dir.specs.Entries.{names}
use Rattle.level_starts.specs.Order.{HasNameOf}
use Rattle.level_starts.proofs.order.place_named.Given as goal

abbrev pub invariant-loop-j : goal.invariant-loop-j
invariant-loop-j g l = (j : ℕ) → 1 ≤ j → j < l.j → ¬ HasNameOf (names l.set) l.g l.k j
