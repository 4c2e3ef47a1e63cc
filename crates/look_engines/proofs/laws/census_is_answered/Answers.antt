use Rattle.look_engines.proofs.engines.CensusLemmas.{census_is_answered}
use Rattle.look_engines.proofs.laws.census_is_answered.Goals as goal

pub returns : goal.returns
returns c = census_is_answered
