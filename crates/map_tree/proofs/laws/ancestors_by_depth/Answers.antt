use Rattle.map_tree.proofs.LawLemmas.{law_ancestors, law_depth}
use Rattle.map_tree.proofs.laws.ancestors_by_depth.Goals as goal

pub returns : goal.returns
returns c = record { ancestors = law_ancestors; few = law_depth }
