use Rattle.node_tree.proofs.MarkLemmas.{ssector_marked}
use Rattle.node_tree.proofs.faults.is_ssector_reached.Goals as goal

pub returns : goal.returns
returns g c = rw c.nodes.ensures.is (ssector_marked _ _ c.args.t c.requires.reached c.requires.there)
