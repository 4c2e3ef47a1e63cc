use Rattle.std.proofs.Common.{sym}
use Rattle.node_lumps.proofs.RecordLemmas.{length_vertexes}
use Rattle.node_lumps.proofs.nodes.LaterNodes.vertex_count.Goals as goal

pub returns : goal.returns
returns c =
    rw (← c.self.view_is)
    (sym (length_vertexes c.self.inside.vertex_count c.self.inside.vertexes.now c.self.invariant.0))
