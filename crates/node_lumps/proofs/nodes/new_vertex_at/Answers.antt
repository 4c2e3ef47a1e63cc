use Rattle.std.proofs.Common.{◌∙◌, Some, ap}
use Rattle.node_lumps.specs.Records.{fine_vertex}
use Rattle.node_lumps.proofs.RecordLemmas.{record_found, record_none}
use Rattle.node_lumps.proofs.nodes.new_vertex_at.Goals as goal

pub returns-in_err-piece : goal.returns-in_err-piece
returns-in_err-piece c =
    c.from_residual.ensures ∙ record_none 8 fine_vertex c.args.vertexes.now c.args.number c.in_err-piece.ensures.none

pub returns : goal.returns
returns c =
    ap Some c.fine_vertex.ensures
    ∙ record_found 8 fine_vertex c.args.vertexes.now c.in_ok-piece.piece.now c.args.number
    c.in_ok-piece.ensures.within c.in_ok-piece.ensures.is
