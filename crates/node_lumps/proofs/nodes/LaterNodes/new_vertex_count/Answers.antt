use Rattle.node_lumps.specs.Records.{fine_vertex}
use Rattle.node_lumps.proofs.RecordLemmas.{length_records}
use Rattle.node_lumps.proofs.nodes.LaterNodes.new_vertex_count.Goals as goal

pub returns : goal.returns
returns c = rw (← c.self.view_is) (length_records 8 fine_vertex c.self.inside.new_vertexes.now)
