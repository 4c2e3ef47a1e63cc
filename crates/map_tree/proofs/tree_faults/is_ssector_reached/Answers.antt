use Rattle.map_tree.proofs.MarkLemmas.{ssector_marked}
use Rattle.map_tree.proofs.tree_faults.is_ssector_reached.Goals as goal

pub returns : goal.returns
returns c = rw c.nodes.ensures.is (ssector_marked _ _ c.args.t c.requires.reached c.requires.there)
