use Rattle.lens_engines.proofs.ObjectReadLemmas.{law_objects_are_read}
use Rattle.lens_engines.proofs.laws.objects_are_read.Goals as goal

pub returns : goal.returns
returns c = law_objects_are_read
