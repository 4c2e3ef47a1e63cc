use Rattle.std.proofs.Common.{◌/◌, length}
use Rattle.node_lumps.specs.Later.{later_of}
use Rattle.node_lumps.specs.Parts.{parts_of}
use Rattle.node_lumps.specs.declared.broken.Broken.TheVariants.{EndsWithin, Segs, Vertexes}
use Rattle.node_lumps.proofs.ReadingLemmas.{count_missed, no_nodes, no_reason, nodes_joined, only_nodes, only_reason, vertexes_missed}
use Rattle.node_lumps.proofs.nodes.read_joined.Goals as goal

pub returns-in-Err-clause-ok : goal.returns-in-Err-clause-ok
returns-in-Err-clause-ok c =
    no_nodes c.args.format c.args.vertexes.now c.args.lump.now (EndsWithin c.lump.result c.in-Err.part)
    (c.lump.ensures, c.in-Err.ensures.cut)

pub returns-in-Err-clause-broken : goal.returns-in-Err-clause-broken
returns-in-Err-clause-broken c =
    only_reason c.args.format c.args.vertexes.now c.args.lump.now (EndsWithin c.lump.result c.in-Err.part)
    (c.lump.ensures, c.in-Err.ensures.cut)

pub returns-then-counted-there-clause-ok : goal.returns-then-counted-there-clause-ok
returns-then-counted-there-clause-ok c =
    no_nodes c.args.format c.args.vertexes.now c.args.lump.now
    (Segs c.sum_of-counted.result (length c.in-Ok.parts.segs.now / c.seg_size.result))
    (count_missed c.args.format c.args.vertexes.now c.args.lump.now (parts_of c.in-Ok.parts) c.in-Ok.ensures.ok c.sum_of-counted.result
    c.seg_size.result c.sum_of-counted.ensures c.seg_size.ensures.size
    c.if-counted-there.true)

pub returns-then-counted-there-clause-broken : goal.returns-then-counted-there-clause-broken
returns-then-counted-there-clause-broken c =
    only_reason c.args.format c.args.vertexes.now c.args.lump.now
    (Segs c.sum_of-counted.result (length c.in-Ok.parts.segs.now / c.seg_size.result))
    (count_missed c.args.format c.args.vertexes.now c.args.lump.now (parts_of c.in-Ok.parts) c.in-Ok.ensures.ok c.sum_of-counted.result
    c.seg_size.result c.sum_of-counted.ensures c.seg_size.ensures.size
    c.if-counted-there.true)

pub returns-then-made-count-clause-broken : goal.returns-then-made-count-clause-broken
returns-then-made-count-clause-broken c =
    only_reason c.args.format c.args.vertexes.now c.args.lump.now
    (Vertexes c.u32_at-made.result (length c.args.vertexes.now / 4))
    (vertexes_missed c.args.format c.args.vertexes.now c.args.lump.now (parts_of c.in-Ok.parts) c.in-Ok.ensures.ok c.sum_of-counted.result
    c.seg_size.result c.sum_of-counted.ensures c.seg_size.ensures.size
    c.if-counted-there.false c.u32_at-made.result c.u32_at-made.ensures c.if-made-count.true)

pub returns-clause-ok : goal.returns-clause-ok
returns-clause-ok c =
    let parts = parts_of c.in-Ok.parts in
    only_nodes c.args.format c.args.vertexes.now c.args.lump.now
    (later_of c.args.format c.u32_at-made.result c.args.vertexes.now parts.vertexes parts.ssectors
    parts.segs parts.nodes c.left_by.result)
    (nodes_joined c.args.format c.args.vertexes.now c.args.lump.now (parts_of c.in-Ok.parts) c.in-Ok.ensures.ok c.sum_of-counted.result
    c.seg_size.result c.sum_of-counted.ensures c.seg_size.ensures.size
    c.if-counted-there.false c.u32_at-made.result c.u32_at-made.ensures c.lump-2.result
    c.left_by.result c.if-made-count.false c.lump-2.ensures c.left_by.ensures)

pub returns-clause-broken : goal.returns-clause-broken
returns-clause-broken c =
    let parts = parts_of c.in-Ok.parts in
    no_reason c.args.format c.args.vertexes.now c.args.lump.now
    (later_of c.args.format c.u32_at-made.result c.args.vertexes.now parts.vertexes parts.ssectors
    parts.segs parts.nodes c.left_by.result)
    (nodes_joined c.args.format c.args.vertexes.now c.args.lump.now (parts_of c.in-Ok.parts) c.in-Ok.ensures.ok c.sum_of-counted.result
    c.seg_size.result c.sum_of-counted.ensures c.seg_size.ensures.size
    c.if-counted-there.false c.u32_at-made.result c.u32_at-made.ensures c.lump-2.result
    c.left_by.result c.if-made-count.false c.lump-2.ensures c.left_by.ensures)
