use Rattle.wad_dir.specs.Entries.{names}
use Rattle.game_warnings.specs.Winners.{AreWinnersBelow}
use Rattle.game_warnings.proofs.winners.winners_of.Given as goal

abbrev pub invariant-loop-g : goal.invariant-loop-g
invariant-loop-g g l = AreWinnersBelow (names l.set) l.g l.winners
