use Rattle.lens_engines.proofs.CountLemmas.{none_below, one_more}
use Rattle.std.proofs.Common.{arith}
use Rattle.lens_engines.proofs.counts.count_code.Goals as goal

pub finds-init : goal.finds-init
finds-init g c = record { few = omega arith; so_far = none_below _ }

pub finds-preserved : goal.finds-preserved
finds-preserved g c =
    let first = c.in-Some.ensures.some in
    record {
      few = omega (arith, c.finds.invariant.few, first.within);
      so_far = one_more (g.T.Searched.holds c.args.searched.now c.args.code) c.finds.from c.finds.count c.in-Some.index c.finds.invariant.so_far first;
    }
