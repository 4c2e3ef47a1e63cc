use Rattle.wad_dir.proofs.LumpLemmas.{IsSlice-one}
use Rattle.wad_dir.proofs.laws.one_lump.Goals as goal

pub returns : goal.returns
returns c = IsSlice-one
