use Rattle.std.proofs.Common.{refl, slice_index, arith}
use Rattle.node_lumps.specs.Later.{counts_of}
use Rattle.node_lumps.proofs.FirstLemmas.{counted_found, counted_none, length-counts_of}
use Rattle.node_lumps.proofs.ssectors.counted_at.Goals as goal

pub returns-then-number-counts : goal.returns-then-number-counts
returns-then-number-counts c =
    let counts = counts_of c.args.counts.now in
    counted_none counts c.args.number (omega (arith, length-counts_of c.args.counts.now))

pub bounds-firsts-number : goal.bounds-firsts-number
bounds-firsts-number c = omega (arith, c.requires.long, length-counts_of c.args.counts.now)

pub returns : goal.returns
returns c =
    counted_found (counts_of c.args.counts.now) c.args.firsts.now c.args.number
    (slice_index c.args.firsts.now c.args.number) c.count_at.result
    c.requires refl c.count_at.ensures
