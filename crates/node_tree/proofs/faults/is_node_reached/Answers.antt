use Rattle.node_tree.proofs.MarkLemmas.{node_marked}
use Rattle.node_tree.proofs.faults.is_node_reached.Goals as goal

pub returns : goal.returns
returns g c = node_marked _ _ c.args.n c.requires.reached c.requires.there
