use Rattle.look_engines.proofs.engines.SightLemmas.{sight_is_answered}
use Rattle.look_engines.proofs.laws.sight_is_answered.Goals as goal

pub returns : goal.returns
returns c = sight_is_answered
