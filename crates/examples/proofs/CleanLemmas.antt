-- A list of findings without any.
use Rattle.std.proofs.Common.{rules, arith, refl, ◌↔◌, ℕ, List, [], ◌∷◌, length, IsTrue, nat_eq}
use Rattle.std.proofs.lemmas.Bool.{eqb-true}
use Rattle.map_level.specs.Findings.{AreFindings}
use Rattle.map_level.specs.declared.finding.Code.{Code}
use Rattle.map_level.specs.declared.finding.Finding.{Finding}

-- it is empty exactly where nothing holds
pub empty_is_clean : (holds : Code → ℕ → Type 0) (found : List Finding) → AreFindings holds found
    → IsTrue (nat_eq (length found) 0) ↔ ((code : Code) (i : ℕ) → ¬ holds code i)
empty_is_clean holds [] are = (
  λ empty code i held. let there = (are.exact (record { code = code; index = i })).1 held in absurd (omega (arith, there.1)),
  λ none. refl,
)
empty_is_clean holds (f ∷ found) are = (
  λ empty. absurd (omega (arith, eqb-true (length (f ∷ found)) 0 empty)),
  λ none. absurd (none f.code f.index ((are.exact f).0 (search rules))),
)
