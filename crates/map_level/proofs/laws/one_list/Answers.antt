use Rattle.map_level.proofs.OneListLemmas.{AreFindings-one}
use Rattle.map_level.proofs.laws.one_list.Goals as goal

pub returns : goal.returns
returns g c searched = AreFindings-one (g.T.Searched.holds searched)
