use Rattle.std.proofs.Common.{◌≤◌, below_more, refl}
use Rattle.std.specs.Prelude.{false, true}
use Rattle.std.proofs.lemmas.Bool.{iff_false}
use Rattle.map_level.proofs.search.first_where.Goals as goal

pub returns-then-test-clause-some : goal.returns-then-test-clause-some
returns-then-test-clause-some g c = record {
  within = c.loop-index.auto.index;
  here = (c.requires.tells c.loop-index.index true c.if-test.ensures).0 refl;
  before = c.loop-index.invariant;
}

pub loop-index-preserved : goal.loop-index-preserved
loop-index-preserved g c = λ i since below.
    below_more (λ k. c.args.from ≤ k → ¬ g.T.Searched.holds c.args.searched.now c.args.code k) c.loop-index.index
    (λ k less from. c.loop-index.invariant k from less)
    (λ from. iff_false (c.requires.tells c.loop-index.index false c.if-test.ensures) refl) i below since
