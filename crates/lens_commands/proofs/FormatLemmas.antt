-- Whether a level starts at an entry, by the first start from there on.
use Rattle.std.proofs.Common.{◌≡◌, ◌↔◌, ℕ, ◌≤◌, List, inl, inr, subst, arith}
use Rattle.std.specs.Prelude.{◌==◌, IsTrue}
use Rattle.std.proofs.lemmas.Bool.{eqb-true, eq-eqb, cases_lt}
use Rattle.level_starts.specs.Starts.{IsNextStart, LevelStartsAt}

pub starts_by : (names : List (List ℕ)) (g start : ℕ) → IsNextStart names g start → IsTrue (start == g) ↔ LevelStartsAt names g
starts_by names g start next = (
  (λ same. subst (LevelStartsAt names) (eqb-true start g same) next.starts),
  (λ starts. eq-eqb start g (at starts)),
)
  where
    at : LevelStartsAt names g → start ≡ g
    at starts = elim (cases_lt g start) [
      | inl past ↦ absurd (next.first g (omega arith) past starts)
      | inr here ↦ let after : g ≤ start = next.after in omega arith
    ]
