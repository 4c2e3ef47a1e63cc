use Rattle.demo_engines.proofs.ObjectReadLemmas.{law_object_is_read, law_refused_is_read}
use Rattle.demo_engines.proofs.laws.objects_are_read.Goals as goal

pub returns-clause-read : goal.returns-clause-read
returns-clause-read c = law_object_is_read

pub returns-clause-refused : goal.returns-clause-refused
returns-clause-refused c = law_refused_is_read
