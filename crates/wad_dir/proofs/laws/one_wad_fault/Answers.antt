use Rattle.wad_dir.proofs.ReadingLemmas.{RefusesWad-one, IsDirectory-not_refused}
use Rattle.wad_dir.proofs.laws.one_wad_fault.Goals as goal

pub returns-clause-one : goal.returns-clause-one
returns-clause-one c = RefusesWad-one

pub returns-clause-not_read : goal.returns-clause-not_read
returns-clause-not_read c = IsDirectory-not_refused
