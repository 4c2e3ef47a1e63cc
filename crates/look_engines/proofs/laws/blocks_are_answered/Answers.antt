use Rattle.look_engines.proofs.engines.BlocksAnsweredLemmas.{blocks_are_answered}
use Rattle.look_engines.proofs.laws.blocks_are_answered.Goals as goal

pub returns : goal.returns
returns c = blocks_are_answered
