-- Labels that a look-up gives, or not.
use Rattle.std.proofs.Common.{◌≢◌, ◌↔◌, inl, inr, ℕ, List, Option, Some, None, not, IsTrue, refl, arith}
use Rattle.std.specs.Prelude.{IfNone, IfSome, nat_eq}
use Rattle.std.specs.List.{slice_get}
use Rattle.std.specs.Option.{option_eq}
use Rattle.std.proofs.lemmas.Bool.{cases_eq}
use Rattle.std.proofs.lemmas.Bool.Decides.{nat_tests}
use Rattle.wad_dir.proofs.WinnerLemmas.{Wins-one}
use Rattle.wad_dir.specs.Winner.{Wins}

-- an entry is hidden where a look-up gives another, or none
pub hidden_unless_found : (all : List (List ℕ)) (query : List ℕ) (g : ℕ) (found : Option ℕ) → IfSome found (Wins all query) → IfNone found ((h : ℕ) → slice_get all h ≢ Some query)
    → IsTrue (not (option_eq nat_eq found (Some g))) ↔ (¬ Wins all query g)
hidden_unless_found all query g None some none = ((λ _ wins. none g wins.named), (λ _. refl))
hidden_unless_found all query g (Some h) some none = elim (cases_eq h g) as (λ _. IsTrue (not (option_eq nat_eq (Some h) (Some g))) ↔ (¬ Wins all query g)) [
  | inl here ↦ ((λ differs wins. let test = differs in grind (arith, nat_tests)), (λ missed. absurd (missed (rw (← here) some))))
  | inr other ↦ ((λ differs wins. other (Wins-one all query h g some wins)), (λ missed. grind (arith, nat_tests)))
]
