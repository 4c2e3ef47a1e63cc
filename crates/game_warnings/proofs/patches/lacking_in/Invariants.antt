use Rattle.std.proofs.Common.{ℕ, ◌<◌}
use Rattle.game_warnings.specs.Patches.{LacksAt}
use Rattle.game_warnings.proofs.patches.lacking_in.Given as goal

abbrev pub invariant-loop-k : goal.invariant-loop-k
invariant-loop-k g l = (j : ℕ) → j < l.k → ¬ LacksAt l.set l.pnames l.lump j
