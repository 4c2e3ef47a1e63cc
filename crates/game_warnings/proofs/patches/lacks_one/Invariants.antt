use Rattle.std.proofs.Common.{ℕ, ◌<◌}
use Rattle.game_warnings.specs.Patches.{patch_at, IsPatchThere}
use Rattle.game_warnings.proofs.patches.lacks_one.Given as goal

abbrev pub invariant-loop-j : goal.invariant-loop-j
invariant-loop-j g l = (k : ℕ) → k < l.j → IsPatchThere l.set l.pnames (patch_at l.lump l.at k)
