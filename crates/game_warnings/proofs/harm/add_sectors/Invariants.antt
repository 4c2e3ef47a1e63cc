use Rattle.game_warnings.specs.Harm.{AreHarmsBelow}
use Rattle.game_warnings.proofs.harm.add_sectors.Given as goal

abbrev pub invariant-loop-s : goal.invariant-loop-s
invariant-loop-s l = AreHarmsBelow l.level l.effect l.s l.harms
