use Rattle.std.proofs.Common.{arith, below_more, subst, sym, ◌∙◌}
use Rattle.std.proofs.lemmas.Bool.{true≢false}
use Rattle.level_codes.proofs.CodeLemmas.{code_at-rank, code_rank-below}
use Rattle.level_codes.specs.Codes.{code_rank}
use Rattle.lens_engines.specs.Failing.{IsFailing}
use Rattle.lens_engines.proofs.failing.has_code.Goals as goal

pub loop-rank-preserved : goal.loop-rank-preserved
loop-rank-preserved c =
    below_more _ _ c.loop-rank.invariant
    (λ failing. true≢false (sym (c.is_failing.ensures.1 (subst (IsFailing c.args.failing.now c.args.counts.now) (sym c.at.ensures) failing)) ∙ c.if-is_failing.false))

pub returns : goal.returns
returns c = (
  (λ no. absurd (cc)),
  (λ some. absurd (c.loop-rank.invariant (code_rank some.0) (omega (arith, code_rank-below some.0, c.loop-rank-test.false))
      (subst (IsFailing c.args.failing.now c.args.counts.now) (sym (code_at-rank some.0)) some.1))),
)
