use Rattle.std.proofs.Common.{arith, below_more, subst, sym, ◌∙◌}
use Rattle.std.proofs.lemmas.Bool.{true≢false}
use Rattle.level_codes.specs.Codes.{code_rank}
use Rattle.level_codes.specs.Sets.{IsShared}
use Rattle.level_codes.proofs.CodeLemmas.{code_at-rank, code_rank-below}
use Rattle.level_codes.proofs.set.CodeSet.shares.Goals as goal

pub loop-rank-preserved : goal.loop-rank-preserved
loop-rank-preserved c =
    below_more _ _ c.loop-rank.invariant
    (λ both. true≢false (sym (c.is_shared.ensures.1 (subst (IsShared c.args.self.now c.args.other.now) (sym c.at.ensures) both)) ∙ c.if-is_shared.false))

pub returns : goal.returns
returns c = (
  (λ no. absurd (cc)),
  (λ shared. absurd (c.loop-rank.invariant (code_rank shared.0) (omega (arith, code_rank-below shared.0, c.loop-rank-test.false))
      (subst (IsShared c.args.self.now c.args.other.now) (sym (code_at-rank shared.0)) shared.1))),
)
