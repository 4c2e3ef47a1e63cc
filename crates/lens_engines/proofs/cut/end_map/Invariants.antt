use Rattle.std.proofs.Common.{ℕ, ◌+◌, ◌<◌, ◌≤◌}
use Rattle.std.specs.Prelude.{codes}
use Rattle.level_starts.specs.Starts.{IsNamed}
use Rattle.wad_dir.specs.Entries.{names}
use Rattle.lens_engines.proofs.cut.end_map.Given as goal

abbrev pub invariant-loop-entry : goal.invariant-loop-entry
invariant-loop-entry g l = (h : ℕ) → l.fn.g + 2 ≤ h → h < l.entry → ¬ IsNamed (names l.set) h (codes "ENDMAP")
