-- What the first finding of a report tells, and that its faults are counted as none exactly where none holds.
use Rattle.std.proofs.Common.{◌≡◌, ◌⊎◌, inl, inr, ◌↔◌, ℕ, zero, suc, ◌+◌, ◌<◌, ◌≤◌, Bool, true, false, cond, ltb, lt-ltb, ltb-true, List, [], ◌∷◌, length, get_or, Some, refl, sym, ap, ◌∙◌, subst, arith}
use Rattle.std.specs.Prelude.{Contains, IsTrue, count_by}
use Rattle.std.specs.List.{slice_get}
use Rattle.std.proofs.lemmas.Bool.{cases_lt, false_from_ne_true}
use Rattle.std.proofs.lemmas.Option.{get_or_from_slice_get, slice_get-get_or, slice_get_within}
use Rattle.std.proofs.lemmas.List.Elements.{Contains-append_right}
use Rattle.std.proofs.lemmas.List.Recursion.{is_count_by}
use Rattle.map_level.specs.Findings.{rank, is_fault, AreFindings, NoFaultHolds, StandsBefore}
use Rattle.map_level.specs.Level.{Level}
use Rattle.map_level.specs.declared.finding.Code.{Code}
use Rattle.map_level.specs.declared.finding.Finding.{Finding}
use Rattle.map_tree.specs.Sound.{IsSound}
use Rattle.map_audit.specs.Findings.{AuditHolds}
use Rattle.map_audit.specs.Laws.{FaultsStandFirst, FirstStandsBefore}
use Rattle.map_audit.proofs.LawLemmas.{law_sound_is_no_fault}

-- how many pass a test
counted : {X : Type 0} → (X → Bool) → List X → ℕ
counted p [] = 0
counted p (x ∷ xs) = cond (p x) (1 + counted p xs) (counted p xs)

counted-is : {X : Type 0} (p : X → Bool) (xs : List X) → counted p xs ≡ count_by p xs
unfolding counted
counted-is p xs = is_count_by (counted p) p refl (λ x rest. refl) xs

none_counted : {X : Type 0} (p : X → Bool) (xs : List X) → ((x : X) → Contains xs x → p x ≡ false) → counted p xs ≡ 0
unfolding counted
none_counted p [] none = refl
none_counted p (x ∷ xs) none = rw (none x (0, omega arith, refl)) (none_counted p xs (λ z there. none z (Contains-append_right (x ∷ []) xs z there)))

some_counted : {X : Type 0} (p : X → Bool) (xs : List X) (k : ℕ) (x : X) → k < length xs → get_or xs k x ≡ x → p x ≡ true → counted p xs ≡ 0 → ⊥
unfolding counted
some_counted p [] k x below at passes zeros = omega (arith, below)
some_counted p (y ∷ ys) zero x below at passes zeros = let first : p y ≡ true = ap p at ∙ passes in let one = rw first at zeros in omega (arith, one)
some_counted p (y ∷ ys) (suc k) x below at passes zeros = go (p y) zeros (λ rest. some_counted p ys k x (omega (arith, below)) at passes rest)
  where
    go : (b : Bool) → cond b (1 + counted p ys) (counted p ys) ≡ 0 → (counted p ys ≡ 0 → ⊥) → ⊥
    go true some behind = omega (arith, some)
    go false rest behind = behind rest

pub faults_counted : (holds : Code → ℕ → Type 0) (found : List Finding) → AreFindings holds found
    → (count_by (λ f. is_fault f.code) found ≡ 0) ↔ NoFaultHolds holds
faults_counted holds found are = (
  (λ zeros code i fault h.
      let f : Finding = record { code = code; index = i } in
      let there = (are.exact f).1 h in
      some_counted (λ (g : Finding). is_fault g.code) found there.0 f there.1 there.2 fault (counted-is _ found ∙ zeros)),
  (λ none.
      sym (counted-is _ found)
      ∙ none_counted (λ (g : Finding). is_fault g.code) found (λ g there.
      false_from_ne_true (is_fault g.code) (λ fault. none g.code g.index fault ((are.exact g).0 there)))),
)

-- a level is sound exactly where its report counts no fault
pub sound_by_report : (level : Level) (found : List Finding) → AreFindings (AuditHolds level) found
    → IsSound level ↔ (count_by (λ f. is_fault f.code) found ≡ 0)
sound_by_report level found are =
    let counted = faults_counted (AuditHolds level) found are in
    let law = law_sound_is_no_fault level in
    ((λ sound. counted.1 (law.0 sound)), (λ zeros. law.1 (counted.0 zeros)))

below_fault : (m n : ℕ) → m ≤ n → ltb n 18 ≡ true → ltb m 18 ≡ true
below_fault m n h e = lt-ltb m 18 (omega (arith, h, ltb-true n 18 e))

-- what stands before a fault is one
before_fault : (a b : Finding) → StandsBefore a b → IsTrue (is_fault b.code) → IsTrue (is_fault a.code)
before_fault a b (inl below) fault = below_fault (rank a.code) (rank b.code) (omega (arith, below)) fault
before_fault a b (inr same) fault = subst (λ code. IsTrue (is_fault code)) (sym same.0) fault

module _ (level : Level) (found : List Finding) (are : AreFindings (AuditHolds level) found) where
  -- another finding stands behind the first
  after_first : (first other : Finding) → slice_get found 0 ≡ Some first → AuditHolds level other.code other.index → (other ≡ first) ⊎ StandsBefore first other
  after_first first other e holds =
      let there = (are.exact other).1 holds in
      let at : get_or found 0 other ≡ first = get_or_from_slice_get found 0 first other e in
      elim (cases_lt 0 there.0) [
        | inl later ↦
            inr (subst (λ f. StandsBefore f other) at (subst (λ f. StandsBefore (get_or found 0 other) f) there.2 (are.ascending 0 there.0 other later there.1)))
        | inr none ↦
            let zero_is : there.0 ≡ 0 = omega (arith, none) in
            inl (sym there.2 ∙ ap (λ k. get_or found k other) zero_is ∙ at)
      ]

  -- where the first is none, no fault holds
  no_fault_first : ((first : Finding) → slice_get found 0 ≡ Some first → ¬ IsTrue (is_fault first.code)) → NoFaultHolds (AuditHolds level)
  no_fault_first none code i fault holds =
      let other : Finding = record { code = code; index = i } in
      let there = (are.exact other).1 holds in
      let first : Finding = get_or found 0 other in
      let is : slice_get found 0 ≡ Some first = slice_get-get_or found 0 other (omega (arith, there.1)) in
      none first is (elim (after_first first other is holds) [
        | inl same ↦ subst (λ f. IsTrue (is_fault f.code)) same fault
        | inr later ↦ before_fault first other later fault
      ])

pub law_first_stands_before : FirstStandsBefore
law_first_stands_before level found first are e = (
  (are.exact first).0 (0, slice_get_within found 0 first e, get_or_from_slice_get found 0 first first e),
  λ other holds apart. elim (after_first level found are first other e holds) [ inl same ↦ absurd (apart same) | inr later ↦ later ],
)

pub law_faults_stand_first : FaultsStandFirst
law_faults_stand_first level found are none = no_fault_first level found are none
