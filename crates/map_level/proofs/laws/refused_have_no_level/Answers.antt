use Rattle.map_level.proofs.LevelLemmas.{RefusesLevel-no_level}
use Rattle.map_level.proofs.laws.refused_have_no_level.Goals as goal

pub returns : goal.returns
returns c = RefusesLevel-no_level
