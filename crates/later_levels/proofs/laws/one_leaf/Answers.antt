use Rattle.later_levels.proofs.LawLemmas as law
use Rattle.later_levels.proofs.laws.one_leaf.Goals as goal

pub returns : goal.returns
returns c = law.one_leaf
