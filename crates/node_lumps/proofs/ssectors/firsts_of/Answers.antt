use Rattle.std.proofs.Common.{◌≡◌, length, arith}
use Rattle.node_lumps.specs.Later.{counts_of}
use Rattle.node_lumps.proofs.FirstLemmas.{AreFirstsTo-all, AreFirstsTo-more, length-counts_of, sum_within}
use Rattle.node_lumps.proofs.ssectors.firsts_of.Goals as goal

pub overflow_add-first : goal.overflow_add-first
overflow_add-first g c =
    let within =
    sum_within (counts_of c.args.counts.now) c.loop-t.t c.count_at-first.result c.count_at-first.ensures in
    omega (arith, c.loop-t.invariant.is, within, c.requires)

pub loop-t-preserved : goal.loop-t-preserved
loop-t-preserved g c =
    rw c.in_ok-push.ensures.items
    (AreFirstsTo-more (counts_of c.args.counts.now) c.loop-t.firsts.items c.loop-t.t c.loop-t.first
    c.count_at-first.result c.loop-t.invariant c.count_at-first.ensures)

pub returns : goal.returns
returns g c =
    let all : c.loop-t.t ≡ length (counts_of c.args.counts.now) =
    omega (arith, length-counts_of c.args.counts.now) in
    AreFirstsTo-all (counts_of c.args.counts.now) c.loop-t.firsts.items c.loop-t.t c.loop-t.first
    c.loop-t.invariant all
