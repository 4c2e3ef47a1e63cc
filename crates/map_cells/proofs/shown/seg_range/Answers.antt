use Rattle.std.proofs.Common.{arith}
use Rattle.std.proofs.lemmas.Int.{ints, clamps}
use Rattle.map_cells.proofs.shown.seg_range.Goals as goal

pub returns : goal.returns
returns c = λ i.
    rw (← c.index_of-first.ensures.value, ← c.index_of.ensures.value) (
      (λ (from, below). (
        omega (arith, ints, clamps, from, c.max.ensures.value, c.index_of-first.ensures.above, c.index_of-first.ensures.below),
        omega (arith, ints, clamps, below, c.max-2.ensures.value, c.index_of-first.ensures.above, c.index_of-first.ensures.below, c.index_of.ensures.above, c.index_of.ensures.below),
      )),
      (λ (from, below). (
        omega (arith, ints, clamps, from, c.max.ensures.value, c.index_of-first.ensures.above, c.index_of-first.ensures.below),
        omega (arith, ints, clamps, below, c.max-2.ensures.value, c.index_of-first.ensures.above, c.index_of-first.ensures.below, c.index_of.ensures.above, c.index_of.ensures.below),
      )),
    )
