use Rattle.std.proofs.Common.{arith}
use Rattle.map_level.proofs.FindingLemmas.{rank-below}
use Rattle.map_picture.proofs.CountLemmas.{counts-code, counts-more}
use Rattle.map_picture.proofs.finding_counts.count_code.Goals as goal

pub one_more-counts-requires : goal.one_more-counts-requires
one_more-counts-requires g c = omega (arith, c.finds.invariant.so_far.few, rank-below c.args.code, c.in-Some.ensures.some.within, c.in-Some.ensures.below)

pub finds-preserved : goal.finds-preserved
finds-preserved g c = record {
  small = omega (arith, c.in-Some.ensures.below);
  so_far =
      counts-more (g.T.Searched.holds c.args.searched.now) c.args.code c.finds.from c.in-Some.index c.finds.counts c.one_more-counts.result c.finds.invariant.so_far
      c.in-Some.ensures.some c.one_more-counts.ensures.faults c.one_more-counts.ensures.notes;
}

pub returns : goal.returns
returns g c =
    counts-code (g.T.Searched.holds c.args.searched.now) c.args.code c.finds.from c.finds.counts c.finds.invariant.so_far c.finds.invariant.small
    c.in_default.ensures.none
