use Rattle.map_tree.proofs.MarkLemmas.{node_marked}
use Rattle.map_tree.proofs.tree_faults.is_node_reached.Goals as goal

pub returns : goal.returns
returns c = node_marked _ _ c.args.n c.requires.reached c.requires.there
