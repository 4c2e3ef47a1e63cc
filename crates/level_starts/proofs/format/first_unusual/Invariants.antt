use Rattle.level_starts.specs.Format.{AreUsualBelow}
use Rattle.level_starts.proofs.format.first_unusual.Given as goal

abbrev pub invariant-loop-k : goal.invariant-loop-k
invariant-loop-k g l = AreUsualBelow l.set l.fn.g l.k
