use Rattle.look_engines.proofs.engines.PointsLemmas.{points_are_answered}
use Rattle.look_engines.proofs.laws.points_are_answered.Goals as goal

pub returns : goal.returns
returns c = points_are_answered
