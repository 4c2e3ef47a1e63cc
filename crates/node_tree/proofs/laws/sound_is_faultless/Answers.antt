use Rattle.node_tree.proofs.LawLemmas.{law_faultless}
use Rattle.node_tree.proofs.laws.sound_is_faultless.Goals as goal

pub returns : goal.returns
returns c = law_faultless
