use Rattle.std.proofs.Common.{ap, arith, below_more, refl, sym, ◌∙◌}
use Rattle.level_codes.specs.Codes.{code_rank}
use Rattle.level_codes.specs.Sets.{has}
use Rattle.level_codes.proofs.CodeLemmas.{code_at-rank, code_rank-below}
use Rattle.level_codes.proofs.set.CodeSet.is_empty.Goals as goal

pub loop-rank-preserved : goal.loop-rank-preserved
loop-rank-preserved c =
    let here = sym c.has.ensures ∙ c.if-has.false in
    below_more _ _ c.loop-rank.invariant (rw c.at.ensures at here)

pub returns : goal.returns
returns c = (
  (λ yes code. ap (has c.args.self.now) (sym (code_at-rank code))
      ∙ c.loop-rank.invariant (code_rank code) (omega (arith, code_rank-below code, c.loop-rank-test.false))),
  (λ none. refl),
)
