use Rattle.node_lumps.specs.Format.{seg_size}
use Rattle.node_lumps.specs.Records.{later_seg}
use Rattle.node_lumps.proofs.RecordLemmas.{length_records}
use Rattle.node_lumps.proofs.nodes.LaterNodes.seg_count.Goals as goal

pub returns : goal.returns
returns c =
    let format = c.self.inside.format in
    rw (c.seg_size.ensures.size, ← c.self.view_is)
    (length_records (seg_size format) (later_seg format) c.self.inside.segs.now)
