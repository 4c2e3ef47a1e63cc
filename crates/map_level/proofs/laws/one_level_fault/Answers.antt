use Rattle.map_level.proofs.LevelLemmas.{RefusesLevel-one}
use Rattle.map_level.proofs.laws.one_level_fault.Goals as goal

pub returns : goal.returns
returns c = RefusesLevel-one
