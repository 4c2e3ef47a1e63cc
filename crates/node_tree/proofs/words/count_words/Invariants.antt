use Rattle.node_tree.proofs.WordLemmas.{AreCountsBy, Below}
use Rattle.node_tree.proofs.words.count_words.Given as goal

abbrev pub invariant-loop-n : goal.invariant-loop-n
invariant-loop-n g l = AreCountsBy (Below l.n) (g.T.Forked.shape l.places) l.counts
