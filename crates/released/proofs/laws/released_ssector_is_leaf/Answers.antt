use Rattle.released.proofs.LeafLemmas.{released_is_leaf}
use Rattle.released.proofs.laws.released_ssector_is_leaf.Goals as goal

pub returns : goal.returns
returns c = released_is_leaf
