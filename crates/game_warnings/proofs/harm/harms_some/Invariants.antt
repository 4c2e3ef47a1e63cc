use Rattle.std.proofs.Common.{ℕ, ◌<◌}
use Rattle.game_warnings.specs.Harm.{IsHarmedSector}
use Rattle.game_warnings.proofs.harm.harms_some.Given as goal

abbrev pub invariant-loop-s : goal.invariant-loop-s
invariant-loop-s l = (j : ℕ) → j < l.s → ¬ IsHarmedSector l.level l.effect j
