use Rattle.node_tree.proofs.WordLemmas.{node_twice}
use Rattle.node_tree.proofs.faults.is_node_twice.Goals as goal

pub returns : goal.returns
returns g c = node_twice _ _ c.args.n c.requires.counts c.requires.there
