use Rattle.wad_dir.proofs.OneDirectoryLemmas.{IsDirectory-one}
use Rattle.wad_dir.proofs.laws.one_directory.Goals as goal

pub returns : goal.returns
returns c = IsDirectory-one
