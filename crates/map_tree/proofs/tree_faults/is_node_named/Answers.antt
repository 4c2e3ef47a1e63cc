use Rattle.map_tree.proofs.WordLemmas.{node_counted}
use Rattle.map_tree.proofs.tree_faults.is_node_named.Goals as goal

pub returns : goal.returns
returns c = node_counted _ _ c.args.n c.requires.counts c.requires.there
