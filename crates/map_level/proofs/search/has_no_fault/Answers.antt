use Rattle.std.proofs.Common.{◌∙◌, ℕ, arith, inl, inr, refl, subst, sym}
use Rattle.std.specs.Prelude.{IsTrue}
use Rattle.std.proofs.lemmas.Bool.{cases_eq}
use Rattle.map_level.specs.Findings.{is_fault, rank}
use Rattle.map_level.specs.declared.finding.Code.TheVariants.{F1}
use Rattle.map_level.proofs.FindingLemmas.{rank_at, rank-below, same_from_rank}
use Rattle.map_level.proofs.search.has_no_fault.Goals as goal

pub loop-code-preserved : goal.loop-code-preserved
loop-code-preserved g c = λ code i below fault.
    let at = c.loop-code.code-index in
    elim (cases_eq (rank code) at) [
      | inl same ↦
          subst (λ d. IsTrue (is_fault d) → (k : ℕ) → ¬ g.T.Searched.holds c.args.searched.now d k)
          (same_from_rank _ code (rank_at at F1 (omega arith) ∙ sym same))
          (c.is_no_fault.ensures.0 c.if-not-is_no_fault.false) fault i
      | inr other ↦ c.loop-code.invariant code i (omega (arith, below, other)) fault
    ]

pub returns : goal.returns
returns g c = (
  (λ is. λ code i fault. c.loop-code.invariant code i (omega (arith, rank-below code)) fault),
  (λ none. refl),
)
