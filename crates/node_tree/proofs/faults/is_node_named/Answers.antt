use Rattle.node_tree.proofs.WordLemmas.{node_counted}
use Rattle.node_tree.proofs.faults.is_node_named.Goals as goal

pub returns : goal.returns
returns g c = node_counted _ _ c.args.n c.requires.counts c.requires.there
