use Rattle.std.proofs.Common.{◌<◌, get_or, arith, refl}
use Rattle.lens_engines.proofs.ReferenceLemmas.{counted, uncounted}
use Rattle.lens_engines.proofs.warned.have_references.Goals as goal

pub returns-then-get-gt0 : goal.returns-then-get-gt0
returns-then-get-gt0 c =
    let some : 0 < get_or c.args.counts.now c.loop-rank.rank 0 = omega (arith, c.get.ensures, c.if-get-gt0.true) in (
      (λ yes. absurd (cc)),
      (λ all. absurd (counted c.args.level.now c.args.counts.now c.requires c.loop-rank.rank (omega (arith, c.loop-rank.auto.rank)) c.loop-rank-test.true some all)),
    )

pub returns : goal.returns
returns c = (
  (λ yes. uncounted c.args.level.now c.args.counts.now c.requires (λ k from to. c.loop-rank.invariant k from (omega (arith, to, c.loop-rank-test.false)))),
  (λ all. refl),
)
