-- Facts about the first number of a kind.
use Rattle.std.proofs.Common.{◌≡◌, ◌↔◌, ℕ, ◌+◌, ◌<◌, ◌≤◌, inl, inr, Option, Some, None, sym, subst, arith}
use Rattle.std.specs.Prelude.{IsSomeAnd, IfSome}
use Rattle.std.proofs.lemmas.Bool.{cases_lt}
use Rattle.game_warnings.specs.First.{IsFirst, IsFirstBelow}

-- a kind has one first number
pub first_one : (is : ℕ → Type 0) (i j : ℕ) → IsFirst is i → IsFirst is j → i ≡ j
first_one is i j a b = elim (cases_lt i j) [
  | inl less ↦ absurd (b.before i less a.here)
  | inr upto ↦ elim (cases_lt j i) [
    | inl more ↦ absurd (a.before j more b.here)
    | inr same ↦ omega (arith, upto, same)
  ]
]

pub first_as : (p q : ℕ → Type 0) (i : ℕ) → IsFirst p i → ((k : ℕ) → p k ↔ q k) → IsFirst q i
first_as p q i first same = record { here = (same i).0 first.here; before = λ k less h. first.before k less ((same k).1 h) }

-- one number more, of the kind or not
pub first_found : (is : ℕ → Type 0) (n : ℕ) → IsFirstBelow is n None → is n → IsFirstBelow is (n + 1) (Some n)
first_found is n none here = (omega arith, record { here = here; before = λ k less. none k less })

pub first_kept : (is : ℕ → Type 0) (n i : ℕ) → IsFirstBelow is n (Some i) → IsFirstBelow is (n + 1) (Some i)
first_kept is n i first = (omega (arith, first.0), first.1)

pub first_missed : (is : ℕ → Type 0) (n : ℕ) → IsFirstBelow is n None → (¬ is n) → IsFirstBelow is (n + 1) None
first_missed is n none other k below = elim (cases_lt k n) [
  | inl less ↦ none k less
  | inr past ↦ let here : k ≡ n = omega (arith, past, below) in λ h. other (subst is here h)
]

pub first_passed : (is : ℕ → Type 0) (n : ℕ) (o : Option ℕ) → IsFirstBelow is n o → (¬ is n) → IsFirstBelow is (n + 1) o
first_passed is n (Some i) first other = first_kept is n i first
first_passed is n None none other = first_missed is n none other

-- what holds below a number that no number of the kind passes holds of all
pub first_none : (is : ℕ → Type 0) (n : ℕ) → ((k : ℕ) → is k → k < n) → IsFirstBelow is n None → (k : ℕ) → ¬ is k
first_none is n within none k h = none k (within k h) h

-- two facts of what stands at a place
pub both_at : {X : Type 0} (o : Option X) (P Q : X → Type 0) → IsSomeAnd o P → IsSomeAnd o Q → IsSomeAnd o (λ x. P x × Q x)
both_at (Some x) P Q p q = (p, q)
both_at None P Q p q = p

pub at_as : {X : Type 0} (o : Option X) (P Q : X → Type 0) → ((x : X) → P x → Q x) → IsSomeAnd o P → IsSomeAnd o Q
at_as (Some x) P Q gives p = gives x p
at_as None P Q gives p = p

-- a fact of what stands at a place that says something of all
pub from_at : {X : Type 0} (o : Option X) (P : X → Type 0) (Q : Type 0) → ((x : X) → P x → Q) → IsSomeAnd o P → Q
from_at (Some x) P Q gives p = gives x p
from_at None P Q gives p = absurd p

pub at_some : {X : Type 0} (o : Option X) (x : X) (P : X → Type 0) → o ≡ Some x → P x → IsSomeAnd o P
at_some {X} o x P is p = subst (λ (found : Option X). IsSomeAnd found P) (sym is) p

pub some_at : {X : Type 0} (o : Option X) (x : X) (P : X → Type 0) → o ≡ Some x → IsSomeAnd o P → P x
some_at {X} o x P is p = subst (λ (found : Option X). IsSomeAnd found P) is p
