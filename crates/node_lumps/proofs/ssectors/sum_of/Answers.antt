use Rattle.std.proofs.Common.{arith}
use Rattle.node_lumps.specs.Later.{counts_of}
use Rattle.node_lumps.proofs.FirstLemmas.{IsSummed-all, IsSummed-more, length-counts_of}
use Rattle.node_lumps.proofs.ssectors.sum_of.Goals as goal

pub loop-t-preserved : goal.loop-t-preserved
loop-t-preserved c =
    rw c.from-segs.ensures
    (IsSummed-more (counts_of c.args.counts.now) c.loop-t.t c.loop-t.segs c.count_at.result
    c.loop-t.invariant c.count_at.ensures (omega arith))

pub returns : goal.returns
returns c =
    IsSummed-all (counts_of c.args.counts.now) c.loop-t.t c.loop-t.segs c.loop-t.invariant
    (omega (arith, length-counts_of c.args.counts.now))
