use Rattle.node_tree.proofs.LawLemmas.{law_ancestors, law_depth}
use Rattle.node_tree.proofs.laws.ancestors_by_depth.Goals as goal

pub returns-clause-ancestors : goal.returns-clause-ancestors
returns-clause-ancestors c = law_ancestors

pub returns-clause-few : goal.returns-clause-few
returns-clause-few c = law_depth
