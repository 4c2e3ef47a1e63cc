use Rattle.std.proofs.Common.{◌≡◌, ℕ, ◌<◌, true, get_or}
use Rattle.lens_engines.specs.Warned.{Warned}
use Rattle.lens_engines.proofs.failing.has_ending_warning.Given as goal

-- the game ends at none so far
abbrev pub invariant-loop-i : goal.invariant-loop-i
invariant-loop-i g l = (k : ℕ) → k < l.i → (d : Warned) → ¬ ((get_or l.warned k d).ends ≡ true)
