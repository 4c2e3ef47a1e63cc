use Rattle.std.proofs.Common.{ℕ, ◌<◌, ◌≤◌}
use Rattle.wad_dir.specs.Entries.{names}
use Rattle.level_starts.specs.Starts.{LevelStartsAt}
use Rattle.level_starts.proofs.starts.next_start.Given as goal

abbrev pub invariant-loop-g : goal.invariant-loop-g
invariant-loop-g g l = (h : ℕ) → l.from ≤ h → h < l.g → ¬ LevelStartsAt (names l.set) h
