use Rattle.map_level.proofs.LevelLemmas.{IsLevel-one}
use Rattle.map_level.proofs.laws.one_level.Goals as goal

pub returns : goal.returns
returns c = IsLevel-one
