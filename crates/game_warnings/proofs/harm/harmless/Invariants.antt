use Rattle.game_warnings.specs.Harm.{ArePlain}
use Rattle.game_warnings.proofs.harm.harmless.Given as goal

abbrev pub invariant-loop-n : goal.invariant-loop-n
invariant-loop-n g l = ArePlain l.n l.harms.items
