use Rattle.wadlook_c.proofs.LevelsLemmas.{ToldBelow}
use Rattle.wadlook_c.proofs.levels.put_levels.Given as goal

abbrev pub invariant-loop-g : goal.invariant-loop-g
invariant-loop-g g l = ToldBelow l.set l.g l.fn.out l.out l.count
