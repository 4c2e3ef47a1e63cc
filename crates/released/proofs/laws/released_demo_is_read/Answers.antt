use Rattle.released.proofs.RecordingLemmas.{written_is_read, written_as_marker, recorded_is_demo}
use Rattle.released.proofs.laws.released_demo_is_read.Goals as goal

pub returns-clause-same : goal.returns-clause-same
returns-clause-same c = written_is_read

pub returns-clause-marker : goal.returns-clause-marker
returns-clause-marker c = written_as_marker

pub returns-clause-demo : goal.returns-clause-demo
returns-clause-demo c = recorded_is_demo
