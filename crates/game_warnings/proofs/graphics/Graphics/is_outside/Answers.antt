use Rattle.game_warnings.proofs.WinnerLemmas.{outside_unknown}
use Rattle.game_warnings.proofs.graphics.Graphics.is_outside.Goals as goal

pub is_name_outside-requires-clause-ends : goal.is_name_outside-requires-clause-ends
is_name_outside-requires-clause-ends g c = rw c.in-Some.is at c.self.invariant.1

pub returns-in-None : goal.returns-in-None
returns-in-None g c = rw (← c.self.view_is) (outside_unknown _ c.args.name (rw c.in-None.is at c.self.invariant.1))
