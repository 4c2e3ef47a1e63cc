use Rattle.game_warnings.proofs.SideLemmas.{sides_here}
use Rattle.game_warnings.proofs.sides.sides_at.Goals as goal

pub returns-clause-at : goal.returns-clause-at
returns-clause-at c = rw c.sides_of.ensures.is (sides_here c.args.level.now c.args.i c.at.result (rw (← c.linedefs.ensures.is) c.at.ensures))
