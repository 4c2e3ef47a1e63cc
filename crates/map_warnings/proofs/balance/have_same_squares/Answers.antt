use Rattle.map_warnings.proofs.BalanceLemmas.{squares_more}
use Rattle.map_warnings.proofs.balance.have_same_squares.Goals as goal

pub loop-k-preserved : goal.loop-k-preserved
loop-k-preserved c =
    let numbers = c.args.numbers.now in
    let k = c.loop-k.k in
    record {
      reached = rw (c.loop-k.invariant.reached, c.square_in-reached.ensures.value) (squares_more 0 k numbers c.loop-k-test.true);
      left = rw (c.loop-k.invariant.left, c.square_in-left.ensures.value) (squares_more 1 k numbers c.loop-k-test.true);
    }
