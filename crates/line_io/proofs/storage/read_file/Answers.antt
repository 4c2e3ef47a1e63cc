use Rattle.line_io.proofs.StorageLemmas.{opened_first}
use Rattle.line_io.proofs.storage.read_file.Goals as goal

pub returns-in-Ok-clause-answered : goal.returns-in-Ok-clause-answered
returns-in-Ok-clause-answered g c = opened_first _ _ _ c.read_whole.result c.in-Ok.file c.in-Ok.ensures.held c.read_whole.ensures.opened
