use Rattle.std.proofs.Common.{◌≡◌, arith, below_more, get_or, refl, subst, sym, ◌∙◌}
use Rattle.std.proofs.lemmas.Bool.{true≢false}
use Rattle.map_level.proofs.FindingLemmas.{rank-below}
use Rattle.map_level.specs.Findings.{rank}
use Rattle.map_level.specs.declared.finding.Code.{Code}
use Rattle.map_level.specs.declared.finding.Code.TheVariants.{F1}
use Rattle.lens_engines.specs.Counts.{finding_order}
use Rattle.lens_engines.specs.Failing.{IsEndingCode}
use Rattle.lens_engines.proofs.failing.has_ending_code.Goals as goal

-- each code stands at its rank
ordered : (code : Code) → get_or finding_order (rank code) F1 ≡ code
ordered F1 = refl
ordered _ = refl

pub loop-rank-preserved : goal.loop-rank-preserved
loop-rank-preserved c =
    below_more _ _ c.loop-rank.invariant
    (λ ends. true≢false (sym (c.is_ending_code.ensures.1 (subst (IsEndingCode c.args.counts.now) (sym c.code_at.ensures) ends)) ∙ c.if-is_ending_code.false))

pub returns : goal.returns
returns c = (
  (λ no. absurd (cc)),
  (λ some. absurd (c.loop-rank.invariant (rank some.0) (omega (arith, rank-below some.0, c.loop-rank-test.false))
      (subst (IsEndingCode c.args.counts.now) (sym (ordered some.0)) some.1))),
)
