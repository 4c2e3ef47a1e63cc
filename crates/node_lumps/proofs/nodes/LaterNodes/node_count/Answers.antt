use Rattle.node_lumps.specs.Records.{later_node}
use Rattle.node_lumps.proofs.RecordLemmas.{length_records}
use Rattle.node_lumps.proofs.nodes.LaterNodes.node_count.Goals as goal

pub returns : goal.returns
returns c = rw (← c.self.view_is) (length_records 32 later_node c.self.inside.nodes.now)
