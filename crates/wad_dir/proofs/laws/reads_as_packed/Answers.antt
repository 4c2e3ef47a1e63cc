use Rattle.wad_dir.proofs.ReadsPackedLemmas.{reads_as_packed}
use Rattle.wad_dir.proofs.laws.reads_as_packed.Goals as goal

pub returns : goal.returns
returns c = reads_as_packed
