-- Lists in order with the same items are the same, so there is at most one list of findings.
use Rattle.std.proofs.Common.{◌≡◌, ℕ, suc, zero, ◌⊎◌, inl, inr, List, [], ◌∷◌, refl, sym, ap, ◌∙◌, subst, arith}
use Rattle.std.specs.Prelude.{AllPairs, Contains}
use Rattle.std.proofs.lemmas.List.Elements.{Contains-append_right}
use Rattle.map_level.specs.declared.finding.Finding.{Finding}
use Rattle.map_level.specs.Findings.{rank, StandsBefore, AreFindings}
use Rattle.map_level.specs.declared.finding.Code.{Code}

-- the first item of a list in order stands before each later one
pub pairs-head : {X : Type 0} (R : X → X → Type 0) (x : X) (xs : List X) (z : X) → AllPairs R (x ∷ xs)
    → Contains xs z → R x z
pairs-head R x xs z p c =
    subst (λ y. R x y) c.2 (p 0 (suc c.0) z (omega arith) (omega (arith, c.1)))

-- and the rest is in order
pub pairs-tail : {X : Type 0} (R : X → X → Type 0) (x : X) (xs : List X) → AllPairs R (x ∷ xs)
    → AllPairs R xs
pairs-tail R x xs p =
    λ i j d below within. p (suc i) (suc j) d (omega (arith, below)) (omega (arith, within))

-- what a list contains: its first item, what its rest contains, and nothing else
pub first_in : {X : Type 0} (x : X) (xs : List X) → Contains (x ∷ xs) x
first_in x xs = (0, omega arith, refl)

pub later_in : {X : Type 0} (x : X) (xs : List X) (z : X) → Contains xs z → Contains (x ∷ xs) z
later_in x xs z c = Contains-append_right (x ∷ []) xs z c

pub cases_in : {X : Type 0} (x : X) (xs : List X) (z : X) → Contains (x ∷ xs) z
    → (z ≡ x) ⊎ Contains xs z
cases_in x xs z (zero, l, e) = inl (sym e)
cases_in x xs z (suc k, l, e) = inr (k, omega (arith, l), e)

not_none : {X A : Type 0} (z : X) → Contains [] z → A
not_none z c = absurd (omega (arith, c.1))

same_heads : {X : Type 0} (R : X → X → Type 0) → ((a b : X) → R a b → R b a → ⊥)
    → (x : X) (xs : List X) (y : X) (ys : List X)
    → AllPairs R (x ∷ xs) → AllPairs R (y ∷ ys) → Contains (y ∷ ys) x → Contains (x ∷ xs) y → x ≡ y
same_heads R asym x xs y ys p q xin yin =
    elim (cases_in y ys x xin) [
      | inl is ↦ is
      | inr later_x ↦ elim (cases_in x xs y yin) [
        | inl is ↦ sym is
        | inr later_y ↦
            absurd (asym x y (pairs-head R x xs y p later_y) (pairs-head R y ys x q later_x))
      ]
    ]

in_tail : {X : Type 0} (R : X → X → Type 0) → ((a b : X) → R a b → R b a → ⊥)
    → (x : X) (xs ys : List X) (z : X)
    → AllPairs R (x ∷ xs) → Contains xs z → Contains (x ∷ ys) z → Contains ys z
in_tail R asym x xs ys z p c there =
    elim (cases_in x ys z there) [
      | inl is ↦
          let before : R x x =
          subst (λ y. R x y) is (pairs-head R x xs z p c) in absurd (asym x x before before)
      | inr rest ↦ rest
    ]

-- two lists in order with the same items
pub one_list : {X : Type 0} (R : X → X → Type 0) → ((a b : X) → R a b → R b a → ⊥)
    → (xs ys : List X) → AllPairs R xs → AllPairs R ys
    → ((z : X) → Contains xs z → Contains ys z) → ((z : X) → Contains ys z → Contains xs z)
    → xs ≡ ys
one_list R asym [] [] p q to from = refl
one_list R asym [] (y ∷ ys) p q to from = not_none y (from y (first_in y ys))
one_list R asym (x ∷ xs) [] p q to from = not_none x (to x (first_in x xs))
one_list R asym (x ∷ xs) (y ∷ ys) p q to from =
    let is = same_heads R asym x xs y ys p q (to x (first_in x xs)) (from y (first_in y ys)) in
    let there : AllPairs R (x ∷ ys) = subst (λ w. AllPairs R (w ∷ ys)) (sym is) q in
    let rest = one_list R asym xs ys (pairs-tail R x xs p) (pairs-tail R y ys q)
    (λ z c. in_tail R asym x xs ys z p c (subst (λ w. Contains (w ∷ ys) z) (sym is)
    (to z (later_in x xs z c))))
    (λ z c. in_tail R asym x ys xs z there c (from z (later_in y ys z c))) in
    ap (λ w. w ∷ xs) is ∙ ap (λ zs. y ∷ zs) rest

-- no finding stands before another and behind it
pub not_both_before : (a b : Finding) → StandsBefore a b → StandsBefore b a → ⊥
not_both_before a b (inl p) (inl q) = omega (arith, p, q)
not_both_before a b (inl p) (inr q) = omega (arith, p, ap rank q.0)
not_both_before a b (inr p) (inl q) = omega (arith, q, ap rank p.0)
not_both_before a b (inr p) (inr q) = omega (arith, p.1, q.1)

-- there is at most one list of the findings
pub AreFindings-one : (holds : Code → ℕ → Type 0) (a b : List Finding) → AreFindings holds a
    → AreFindings holds b → a ≡ b
AreFindings-one holds a b p q =
    one_list StandsBefore not_both_before a b p.ascending q.ascending
    (λ f c. (q.exact f).1 ((p.exact f).0 c)) (λ f c. (p.exact f).1 ((q.exact f).0 c))
