use Rattle.demo_lump.proofs.PieceLemmas.{reads_as_109}
use Rattle.demo_lump.proofs.laws.reads_as_109_alone.Goals as goal

pub returns : goal.returns
returns c = reads_as_109
