use Rattle.node_tree.proofs.WiderFaultLemmas.{same_findings}
use Rattle.node_tree.proofs.WiderLemmas.{same_leaf, sound_wider}
use Rattle.node_tree.proofs.laws.wider_nodes.Goals as goal

pub returns-clause-leaf : goal.returns-clause-leaf
returns-clause-leaf c = same_leaf

pub returns-clause-sound : goal.returns-clause-sound
returns-clause-sound c = sound_wider

pub returns-clause-findings : goal.returns-clause-findings
returns-clause-findings c = same_findings
