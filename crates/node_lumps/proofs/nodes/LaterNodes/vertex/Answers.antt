use Rattle.std.proofs.Common.{◌∙◌, sym, ap, arith}
use Rattle.node_lumps.specs.Later.{Later}
use Rattle.node_lumps.proofs.RecordLemmas.{vertex_above, vertex_below}
use Rattle.node_lumps.proofs.nodes.LaterNodes.vertex.Goals as goal

pub returns-then-number-count : goal.returns-then-number-count
returns-then-number-count c =
    c.whole_vertex_at.ensures
    ∙ vertex_below c.args.self.now c.self.inside.vertex_count c.self.inside.vertexes.now
    (ap (λ (later : Later). later.vertexes) (sym c.self.view_is)) c.self.invariant.0 c.args.number
    (omega arith)

pub returns-else-number-count : goal.returns-else-number-count
returns-else-number-count c =
    c.new_vertex_at.ensures
    ∙ vertex_above c.args.self.now c.self.inside.vertex_count c.self.inside.vertexes.now
    (ap (λ (later : Later). later.vertexes) (sym c.self.view_is)) c.self.invariant.0
    c.self.inside.new_vertexes.now c.args.number
    (ap (λ (later : Later). later.new_vertexes) (sym c.self.view_is)) (omega arith)
