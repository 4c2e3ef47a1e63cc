use Rattle.node_lumps.proofs.PartLemmas.{cut_in_segs, cut_in_vertexes}
use Rattle.node_lumps.proofs.parts.read_parts.Goals as goal

pub returns-in_default-clause-cut : goal.returns-in_default-clause-cut
returns-in_default-clause-cut c =
    let none = rw c.behind_front.ensures at c.in_default.ensures.none in
    cut_in_vertexes c.args.format c.args.lump.now none

pub returns-in_default-cut_part-2-clause-cut : goal.returns-in_default-cut_part-2-clause-cut
returns-in_default-cut_part-2-clause-cut c =
    let vertexes = rw c.behind_front.ensures at c.in-Some.ensures.some in
    let none = rw c.seg_size.ensures.size at c.in_default-cut_part-2.ensures.none in
    cut_in_segs c.args.format c.args.lump.now c.in-Some.vertexes.records.now
    c.in-Some-cut_part.ssectors.records.now c.in-Some.vertexes.rest.now
    c.in-Some-cut_part.ssectors.rest.now vertexes c.in-Some-cut_part.ensures.some none
