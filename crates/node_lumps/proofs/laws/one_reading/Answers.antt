use Rattle.node_lumps.proofs.ReadingLemmas.{one_reading}
use Rattle.node_lumps.proofs.laws.one_reading.Goals as goal

pub returns : goal.returns
returns c = one_reading
