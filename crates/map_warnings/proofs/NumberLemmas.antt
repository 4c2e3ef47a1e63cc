-- Facts about names and their numbers.
use Rattle.std.proofs.Common.{◌≡◌, ◌↔◌, ◌⊎◌, inl, inr, ℕ, ◌+◌, ◌<◌, List, [], ◌∷◌, ◌++◌, refl, sym, ap, ◌∙◌, subst, arith}
use Rattle.std.specs.Prelude.{Contains, IsPermutation, IsSorted}
use Rattle.std.specs.List.Sorted.{IsNonDecreasing}
use Rattle.std.specs.Ordering.{nat_cmp}
use Rattle.std.proofs.lemmas.Bool.{cases_lt}
use Rattle.std.proofs.lemmas.List.Elements.{Contains-append_left, Contains-push, Contains-push_cases}
use Rattle.std.proofs.lemmas.List.Sorted.{Contains-permutation, IsNonDecreasingBy-from_sort, IsPermutation-sym}
use Rattle.le_rec.specs.Name.{name_of}
use Rattle.map_warnings.specs.NameNumber.{name_number, AddsNames, AreNumbers, IsNumbered}

-- a number has one name
one_name : (a b : List ℕ) (n : ℕ) → IsNumbered a n → IsNumbered b n → a ≡ b
one_name a b n p q = sym p.own ∙ ap name_of (sym p.bytes ∙ q.bytes) ∙ q.own

-- the number of a name is one of those of a kind exactly where the name is of that kind
pub known : (is : List ℕ → Type 0) (numbers name : List ℕ) (n : ℕ) → AreNumbers is numbers → IsNumbered name n → Contains numbers n ↔ is name
known is numbers name n are numbered = (
  λ there. let found = (are n).0 there in subst is (one_name found.0 name n found.2 numbered) found.1,
  λ h. (are n).1 (name, h, numbered),
)

-- one name more
pub adds_one : (numbers name : List ℕ) (n : ℕ) → IsNumbered name n → AddsNames (λ other. other ≡ name) numbers (numbers ++ n ∷ [])
adds_one numbers name n numbered number = (
  λ there. elim (Contains-push_cases numbers n number there) [
    | inl old ↦ inl old
    | inr same ↦ inr (name, refl, subst (IsNumbered name) same numbered)
  ],
  λ h. elim h [
    | inl old ↦ Contains-append_left numbers (n ∷ []) number old
    | inr new ↦
        let is : number ≡ n = new.2.is ∙ ap name_number new.1 ∙ sym numbered.is in
        subst (Contains (numbers ++ n ∷ [])) (sym is) (Contains-push numbers n)
  ],
)

-- none more
pub adds_none : (is : List ℕ → Type 0) (numbers : List ℕ) → ((name : List ℕ) → ¬ is name) → AddsNames is numbers numbers
adds_none is numbers none number = (
  λ there. inl there,
  λ h. elim h [ inl old ↦ old | inr new ↦ absurd (none new.0 new.1) ],
)

-- those of two kinds
pub adds_both : (p q r : List ℕ → Type 0) (a b c : List ℕ) → AddsNames p a b → AddsNames q b c
    → ((name : List ℕ) → r name ↔ (p name ⊎ q name)) → AddsNames r a c
adds_both p q r a b c first second both number = (
  λ there. elim ((second number).0 there) [
    | inl before ↦ elim ((first number).0 before) [
      | inl old ↦ inl old
      | inr new ↦ inr (new.0, (both new.0).1 (inl new.1), new.2)
    ]
    | inr new ↦ inr (new.0, (both new.0).1 (inr new.1), new.2)
  ],
  λ h. elim h [
    | inl old ↦ (second number).1 (inl ((first number).1 (inl old)))
    | inr new ↦ elim ((both new.0).0 new.1) [
      | inl one ↦ (second number).1 (inl ((first number).1 (inr (new.0, one, new.2))))
      | inr other ↦ (second number).1 (inr (new.0, other, new.2))
    ]
  ],
)

-- those of a kind that has the same names
pub adds_as : (p r : List ℕ → Type 0) (a b : List ℕ) → AddsNames p a b → ((name : List ℕ) → p name ↔ r name) → AddsNames r a b
adds_as p r a b adds same number = (
  λ there. elim ((adds number).0 there) [ inl old ↦ inl old | inr new ↦ inr (new.0, (same new.0).0 new.1, new.2) ],
  λ h. elim h [
    | inl old ↦ (adds number).1 (inl old)
    | inr new ↦ (adds number).1 (inr (new.0, (same new.0).1 new.1, new.2))
  ],
)

-- what was added to nothing, in order
pub are_all : (is : List ℕ → Type 0) (numbers sorted : List ℕ) → AddsNames is [] numbers
    → ((n : ℕ) → Contains sorted n ↔ Contains numbers n) → AreNumbers is sorted
are_all is numbers sorted adds same number = (
  λ there. elim ((adds number).0 ((same number).0 there)) [ inl none ↦ absurd (omega (arith, none.1)) | inr new ↦ new ],
  λ h. (same number).1 ((adds number).1 (inr h)),
)

-- numbers in order
pub in_order : (numbers : List ℕ) → IsSorted nat_cmp numbers → IsNonDecreasing numbers
in_order numbers sorted = IsNonDecreasingBy-from_sort (λ n. n) numbers sorted

pub same_in_order : (xs ys : List ℕ) → IsPermutation xs ys → (n : ℕ) → Contains ys n ↔ Contains xs n
same_in_order xs ys moves n = (Contains-permutation ys xs n (IsPermutation-sym xs ys moves), Contains-permutation xs ys n moves)

-- the names that stand at the first so many numbers
abbrev pub Below : (ℕ → List ℕ → Type 0) → ℕ → List ℕ → Type 0
Below at n name = (k : ℕ) × (k < n) × at k name

pub below_none : (at : ℕ → List ℕ → Type 0) (name : List ℕ) → ¬ Below at 0 name
below_none at name h = omega (arith, h.1)

pub below_more : (at : ℕ → List ℕ → Type 0) (n : ℕ) (name : List ℕ) → Below at (n + 1) name ↔ (Below at n name ⊎ at n name)
below_more at n name = (
  λ h. elim (cases_lt h.0 n) [
    | inl less ↦ inl (h.0, less, h.2)
    | inr past ↦ let is : h.0 ≡ n = omega (arith, past, h.1) in inr (subst (λ k. at k name) is h.2)
  ],
  λ h. elim h [
    | inl before ↦ (before.0, omega (arith, before.1), before.2)
    | inr here ↦ (n, omega arith, here)
  ],
)
