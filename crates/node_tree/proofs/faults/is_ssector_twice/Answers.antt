use Rattle.node_tree.proofs.WordLemmas.{ssector_twice}
use Rattle.node_tree.proofs.faults.is_ssector_twice.Goals as goal

pub returns : goal.returns
returns g c = rw c.nodes.ensures.is (ssector_twice _ _ c.args.t c.requires.counts c.requires.there)
