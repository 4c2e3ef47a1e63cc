use Rattle.std.proofs.Common.{◌≡◌, ◌<◌, ℕ, true}
use Rattle.std.specs.Prelude.{slice_index_or}
use Rattle.map_warnings.specs.Warnings.{ends_game}
use Rattle.map_warnings.specs.declared.warning.Warning.{Warning}
use Rattle.map_warnings.proofs.checks.has_ending.Given as goal

-- the game ends at none so far
abbrev pub invariant-loop-i : goal.invariant-loop-i
invariant-loop-i l = (k : ℕ) → k < l.i → (d : Warning) → ¬ (ends_game (slice_index_or l.first k d) ≡ true)
