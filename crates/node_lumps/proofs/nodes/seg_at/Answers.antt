use Rattle.std.proofs.Common.{◌∙◌, Some, ap}
use Rattle.node_lumps.specs.Format.{seg_size}
use Rattle.node_lumps.specs.Records.{later_seg}
use Rattle.node_lumps.proofs.RecordLemmas.{record_found, record_none}
use Rattle.node_lumps.proofs.nodes.seg_at.Goals as goal

pub returns-in_err-piece : goal.returns-in_err-piece
returns-in_err-piece c =
    let format = c.args.format in
    let none = rw c.seg_size.ensures.size at c.in_err-piece.ensures.none in
    c.from_residual.ensures
    ∙ record_none (seg_size format) (later_seg format) c.args.segs.now c.args.number none

pub returns : goal.returns
returns c =
    let format = c.args.format in
    let within = rw c.seg_size.ensures.size at c.in_ok-piece.ensures.within in
    let is = rw c.seg_size.ensures.size at c.in_ok-piece.ensures.is in
    ap Some c.later_seg.ensures
    ∙ record_found (seg_size format) (later_seg format) c.args.segs.now c.in_ok-piece.piece.now
    c.args.number within is
