use Rattle.game_warnings.proofs.SearchLemmas.{AreBegun}
use Rattle.game_warnings.proofs.search.begun.Given as goal

abbrev pub invariant-loop-s : goal.invariant-loop-s
invariant-loop-s g l = AreBegun l.level l.s l.searches.items
