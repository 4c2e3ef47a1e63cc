-- The indexes of a code as they are found, one after another.
use Rattle.std.proofs.Common.{◌≡◌, ◌↔◌, ℕ, zero, suc, ◌+◌, ◌<◌, ◌≤◌, ◌⊎◌, inl, inr, List, [], ◌∷◌, refl, ap, subst, arith}
use Rattle.std.specs.Prelude.{AllPairs, Contains}
use Rattle.map_level.specs.Findings.{IsFirst}
use Rattle.lens_engines.specs.LevelLines.{AreIndexes}

-- the indexes from one on at which something holds
pub record AreIndexesFrom (holds : ℕ → Type 0) (from : ℕ) (indexes : List ℕ) : Type 0 where
  pub ascending : AllPairs (λ a b. a < b) indexes
  pub exact : (i : ℕ) → Contains indexes i ↔ (holds i × (from ≤ i))

pub from_all : (holds : ℕ → Type 0) (indexes : List ℕ) → AreIndexes holds indexes → AreIndexesFrom holds 0 indexes
from_all holds indexes are = record {
  ascending = are.ascending;
  exact = λ i. (λ there. ((are.exact i).0 there, omega arith), λ told. (are.exact i).1 told.0);
}

-- there are none where it holds nowhere from there on
pub none_from : (holds : ℕ → Type 0) (from : ℕ) (indexes : List ℕ) → AreIndexesFrom holds from indexes → ((i : ℕ) → from ≤ i → ¬ holds i) → indexes ≡ []
none_from holds from [] are none = refl
none_from holds from (x ∷ indexes) are none = let told = (are.exact x).0 (zero, omega arith, refl) in absurd (none x told.1 told.0)

-- the first of the others is above the first
above : (x : ℕ) (indexes : List ℕ) (i : ℕ) → AllPairs (λ a b. a < b) (x ∷ indexes) → Contains indexes i → x < i
above x indexes i ascending (k, below, is) = subst (λ j. x < j) is (ascending 0 (suc k) i (omega arith) (omega (arith, below)))

-- an item is the first, or one of the others
cases : (x : ℕ) (indexes : List ℕ) (i : ℕ) → Contains (x ∷ indexes) i → (x ≡ i) ⊎ Contains indexes i
cases x indexes i (zero, below, is) = inl is
cases x indexes i (suc k, below, is) = inr (k, omega (arith, below), is)

-- the list begins with the first index at which it holds, and goes on behind it
pub record GoesOn (holds : ℕ → Type 0) (at : ℕ) (indexes : List ℕ) : Type 0 where
  pub others : List ℕ
  pub begins : indexes ≡ at ∷ others
  pub are : AreIndexesFrom holds (at + 1) others

pub goes_on : (holds : ℕ → Type 0) (from at : ℕ) (indexes : List ℕ) → AreIndexesFrom holds from indexes → IsFirst holds from at → GoesOn holds at indexes
goes_on holds from at [] are first = absurd (omega (arith, ((are.exact at).1 (first.here, first.within)).1))
goes_on holds from at (x ∷ indexes) are first =
    let here = (are.exact x).0 (zero, omega arith, refl) in
    let same : x ≡ at = elim (cases x indexes at ((are.exact at).1 (first.here, first.within))) [
      | inl is ↦ is
      | inr there ↦ absurd (first.before x here.1 (above x indexes at are.ascending there) here.0)
    ] in
    record {
      others = indexes;
      begins = ap (λ y. y ∷ indexes) same;
      are = record {
        ascending = λ i j d before below. are.ascending (suc i) (suc j) d (omega (arith, before)) (omega (arith, below));
        exact = λ i. (
          (λ there. let over = above x indexes i are.ascending there in
              let told = (are.exact i).0 (suc there.0, omega (arith, there.1), there.2) in
              (told.0, omega (arith, over, same))),
          (λ told. elim (cases x indexes i ((are.exact i).1 (told.0, omega (arith, told.1, first.within)))) [
            | inl is ↦ absurd (omega (arith, told.1, is, same))
            | inr there ↦ there
          ]),
        );
      };
    }
