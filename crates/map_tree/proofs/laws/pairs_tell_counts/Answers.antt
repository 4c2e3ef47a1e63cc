use Rattle.map_tree.proofs.PairLemmas.{no_pair_tells, pair_tells}
use Rattle.map_tree.proofs.laws.pairs_tell_counts.Goals as goal

pub returns-clause-pair : goal.returns-clause-pair
returns-clause-pair c = pair_tells

pub returns-clause-none : goal.returns-clause-none
returns-clause-none c = no_pair_tells
