use Rattle.map_tree.proofs.CensusLemmas.{areas_have_census, census_has_areas}
use Rattle.map_tree.proofs.laws.areas_are_pairs.Goals as goal

pub returns : goal.returns
returns c = record { pairs = census_has_areas; census = areas_have_census }
