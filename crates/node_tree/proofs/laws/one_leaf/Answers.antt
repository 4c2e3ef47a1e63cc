use Rattle.node_tree.proofs.LawLemmas.{law_one_leaf}
use Rattle.node_tree.proofs.laws.one_leaf.Goals as goal

pub returns : goal.returns
returns c = law_one_leaf
