use Rattle.game_warnings.proofs.AroundLemmas.{AreBare}
use Rattle.game_warnings.proofs.around.bare.Given as goal

abbrev pub invariant-loop-s : goal.invariant-loop-s
invariant-loop-s g l = AreBare l.level l.s l.around.items
