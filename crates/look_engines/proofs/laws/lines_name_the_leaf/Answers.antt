use Rattle.look_engines.proofs.engines.PointsLemmas.{lines_name_the_leaf}
use Rattle.look_engines.proofs.laws.lines_name_the_leaf.Goals as goal

pub returns : goal.returns
returns c = lines_name_the_leaf
