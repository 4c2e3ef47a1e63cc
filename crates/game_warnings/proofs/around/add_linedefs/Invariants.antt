use Rattle.game_warnings.specs.Around.{AreAround}
use Rattle.game_warnings.proofs.around.add_linedefs.Given as goal

abbrev pub invariant-loop-i : goal.invariant-loop-i
invariant-loop-i l = AreAround l.level l.i l.around
