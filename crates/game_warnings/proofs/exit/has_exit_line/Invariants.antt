use Rattle.std.proofs.Common.{ℕ, ◌<◌}
use Rattle.std.specs.Prelude.{IsSomeAnd}
use Rattle.std.specs.List.{slice_get}
use Rattle.map_level.specs.Links.{linedefs_of}
use Rattle.game_warnings.specs.Exit.{EndsLevel}
use Rattle.game_warnings.proofs.exit.has_exit_line.Given as goal

abbrev pub invariant-loop-i : goal.invariant-loop-i
invariant-loop-i l = (j : ℕ) → j < l.i → ¬ IsSomeAnd (slice_get (linedefs_of l.level) j) (EndsLevel l.level)
