use Rattle.game_warnings.specs.Around.{AreSearches}
use Rattle.game_warnings.proofs.search.look_on_all.Given as goal

abbrev pub invariant-loop-i : goal.invariant-loop-i
invariant-loop-i l = AreSearches l.level l.i l.searches
