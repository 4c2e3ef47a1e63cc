use Rattle.later_demos.proofs.DoomLemmas.{doom_is_read, doom_is_refused}
use Rattle.later_demos.proofs.laws.reads_doom.Goals as goal

pub returns-clause-read : goal.returns-clause-read
returns-clause-read c = doom_is_read

pub returns-clause-refused : goal.returns-clause-refused
returns-clause-refused c = doom_is_refused
