use Rattle.map_level.specs.Opening.{AreThereBelow}
use Rattle.level_starts.proofs.format.first_outside.Given as goal

abbrev pub invariant-loop-k : goal.invariant-loop-k
invariant-loop-k g l = AreThereBelow l.set l.fn.g l.k
