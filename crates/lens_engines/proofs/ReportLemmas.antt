-- The counts of a level's codes are those of its report.
use Rattle.std.proofs.Common.{◌≡◌, ◌↔◌, ℕ, zero, suc, ◌+◌, ◌<◌, ◌≤◌, inl, inr, Bool, true, false, List, [], ◌∷◌, length, take, drop, get_or, length-drop, refl, sym, ap, ◌∙◌, subst, arith, add-one}
use Rattle.std.specs.Prelude.{AllPairs, Contains, cond, count_by, if◌then◌else◌, nat_lt, not, slice_index, sum, ◌==◌}
use Rattle.std.proofs.lemmas.Bool.{cases_eq, cases_order, eq-eqb, le-ltb, lt-ltb, ne_eqb}
use Rattle.std.proofs.lemmas.List.{take_all}
use Rattle.std.proofs.lemmas.List.Elements.{Contains-get_or}
use Rattle.std.proofs.lemmas.List.Sums.{sum_by-cons, sum_by-take-drop, sum_by_more}
use Rattle.map_level.proofs.FindingLemmas.{rank_at, rank-below, same_from_rank}
use Rattle.map_level.proofs.OneListLemmas.{cases_in, first_in, later_in, one_list, pairs-head, pairs-tail}
use Rattle.map_level.specs.Findings.{AreFindings, StandsBefore, is_fault, rank}
use Rattle.map_level.specs.declared.finding.Code.{Code}
use Rattle.map_level.specs.declared.finding.Code.TheVariants.{F1}
use Rattle.map_level.specs.declared.finding.Finding.{Finding}
use Rattle.map_level.specs.declared.search.TheConstants.{CODE_COUNT}
use Rattle.lens_engines.specs.Counts.{IsCount, finding_order}
use Rattle.lens_engines.specs.Laws.{CountsAreOfTheReport}

-- the indexes of a code's findings
abbrev pub pick : Code → List Finding → List ℕ
pick code [] = []
pick code (f ∷ found) = if rank f.code == rank code then f.index ∷ pick code found else pick code found

pick-yes : (code : Code) (f : Finding) (found : List Finding) → rank f.code ≡ rank code → pick code (f ∷ found) ≡ f.index ∷ pick code found
pick-yes code f found same = rw (eq-eqb (rank f.code) (rank code) same) refl

pick-no : (code : Code) (f : Finding) (found : List Finding) → (rank f.code ≡ rank code → ⊥) → pick code (f ∷ found) ≡ pick code found
pick-no code f found differs = rw (ne_eqb (rank f.code) (rank code) differs) refl

record Picked (code : Code) (found : List Finding) (i : ℕ) : Type 0 where
  f : Finding
  there : Contains found f
  coded : f.code ≡ code
  indexed : f.index ≡ i

Picked-later : (code : Code) (f : Finding) (found : List Finding) (i : ℕ) → Picked code found i → Picked code (f ∷ found) i
Picked-later code f found i p = record { f = p.f; there = later_in f found p.f p.there; coded = p.coded; indexed = p.indexed }

picked : (code : Code) (found : List Finding) (i : ℕ) → Contains (pick code found) i → Picked code found i
picked code [] i there = absurd (omega (arith, there.1))
picked code (f ∷ found) i there = elim (cases_eq (rank f.code) (rank code)) [
  | inl same ↦ elim (cases_in f.index (pick code found) i (subst (λ (l : List ℕ). Contains l i) (pick-yes code f found same) there)) [
    | inl is ↦ record { f = f; there = first_in f found; coded = same_from_rank f.code code same; indexed = sym is }
    | inr rest ↦ Picked-later code f found i (picked code found i rest)
  ]
  | inr differs ↦ Picked-later code f found i (picked code found i (subst (λ (l : List ℕ). Contains l i) (pick-no code f found differs) there))
]

is_picked : (code : Code) (found : List Finding) (f : Finding) → Contains found f → f.code ≡ code → Contains (pick code found) f.index
is_picked code [] f there coded = absurd (omega (arith, there.1))
is_picked code (g ∷ found) f there coded = elim (cases_eq (rank g.code) (rank code)) [
  | inl same ↦ subst (λ (l : List ℕ). Contains l f.index) (sym (pick-yes code g found same)) (elim (cases_in g found f there) [
    | inl is ↦ subst (λ (h : Finding). Contains (g.index ∷ pick code found) h.index) (sym is) (first_in g.index (pick code found))
    | inr rest ↦ later_in g.index (pick code found) f.index (is_picked code found f rest coded)
  ])
  | inr differs ↦ subst (λ (l : List ℕ). Contains l f.index) (sym (pick-no code g found differs)) (elim (cases_in g found f there) [
    | inl is ↦ absurd (differs (ap (λ (h : Finding). rank h.code) (sym is) ∙ ap rank coded))
    | inr rest ↦ is_picked code found f rest coded
  ])
]

pairs-cons : {X : Type 0} (R : X → X → Type 0) (x : X) (xs : List X) → ((z : X) → Contains xs z → R x z) → AllPairs R xs
    → (i j : ℕ) (d : X) → i < j → j < length (x ∷ xs) → R (get_or (x ∷ xs) i d) (get_or (x ∷ xs) j d)
pairs-cons R x xs head tail zero zero d before below = absurd (omega (arith, before))
pairs-cons R x xs head tail zero (suc j) d before below = head (get_or xs j d) (Contains-get_or xs j d (omega (arith, below)))
pairs-cons R x xs head tail (suc i) zero d before below = absurd (omega (arith, before))
pairs-cons R x xs head tail (suc i) (suc j) d before below = tail i j d (omega (arith, before)) (omega (arith, below))

pick_ascending : (code : Code) (found : List Finding) → AllPairs StandsBefore found → AllPairs (λ a b. a < b) (pick code found)
pick_ascending code [] pairs = λ i j d before below. absurd (omega (arith, below))
pick_ascending code (f ∷ found) pairs =
    let tail = pick_ascending code found (pairs-tail StandsBefore f found pairs) in
    elim (cases_eq (rank f.code) (rank code)) [
      | inl same ↦ subst (λ (l : List ℕ). AllPairs (λ a b. a < b) l) (sym (pick-yes code f found same))
          (pairs-cons (λ a b. a < b) f.index (pick code found) (λ i there.
          let p = picked code found i there in
          elim (pairs-head StandsBefore f found p.f pairs p.there) [
            | inl less ↦ absurd (omega (arith, less, same, ap rank p.coded))
            | inr stands ↦ omega (arith, stands.1, p.indexed)
          ]) tail)
      | inr differs ↦ subst (λ (l : List ℕ). AllPairs (λ a b. a < b) l) (sym (pick-no code f found differs)) tail
    ]

length-pick : (code : Code) (found : List Finding) → length (pick code found) ≡ count_by (λ f. rank f.code == rank code) found
length-pick code [] = refl
length-pick code (f ∷ found) =
    let rest = length-pick code found in
    let cut = sum_by-cons (λ (g : Finding). cond (rank g.code == rank code) 1 0) f found in
    elim (cases_eq (rank f.code) (rank code)) [
      | inl same ↦
          let one : ◌≡◌ {A = ℕ} (cond (rank f.code == rank code) 1 0) 1 = rw (eq-eqb (rank f.code) (rank code) same) refl in
          ap length (pick-yes code f found same) ∙ omega (arith, rest, cut, one)
      | inr differs ↦
          let none : ◌≡◌ {A = ℕ} (cond (rank f.code == rank code) 1 0) 0 = rw (ne_eqb (rank f.code) (rank code) differs) refl in
          ap length (pick-no code f found differs) ∙ omega (arith, rest, cut, none)
    ]

-- all indexes at which a code holds are those of its findings in a report
pub indexes_of_report : (holds : Code → ℕ → Type 0) (found : List Finding) (code : Code) (indexes : List ℕ) → AreFindings holds found
    → AllPairs (λ a b. a < b) indexes → ((i : ℕ) → Contains indexes i ↔ holds code i) → indexes ≡ pick code found
indexes_of_report holds found code indexes are ascending exact =
    one_list (λ (a b : ℕ). a < b) (λ a b below above. omega (arith, below, above)) indexes (pick code found) ascending (pick_ascending code found are.ascending)
    (λ i there. is_picked code found (record { code = code; index = i }) ((are.exact (record { code = code; index = i })).1 ((exact i).0 there)) refl)
    (λ i there.
    let p = picked code found i there in
    let here : holds code i = subst (λ (c : Code). holds c i) p.coded (subst (λ (k : ℕ). holds p.f.code k) p.indexed ((are.exact p.f).0 p.there)) in
    (exact i).1 here)

-- how often a code holds is how many findings of a report have it
count_of_report : (holds : Code → ℕ → Type 0) (found : List Finding) (code : Code) (count : ℕ) → AreFindings holds found → IsCount (holds code) count
    → count ≡ count_by (λ f. rank f.code == rank code) found
count_of_report holds found code count are is =
    is.counted ∙ ap length (indexes_of_report holds found code is.indexes are is.ascending is.exact) ∙ length-pick code found

-- one rank more
test_more : (p n : ℕ) → cond (nat_lt p (n + 1)) 1 0 ≡ cond (nat_lt p n) 1 0 + cond (p == n) 1 0
test_more p n = elim (cases_order p n) [
  | inl same ↦ rw (lt-ltb p (n + 1) (omega arith), le-ltb p n (omega arith), eq-eqb p n same) refl
  | inr other ↦ elim other [
    | inl less ↦ rw (lt-ltb p (n + 1) (omega arith), lt-ltb p n less, ne_eqb p n (λ e. omega arith)) refl
    | inr more ↦ rw (le-ltb p (n + 1) (omega arith), le-ltb p n (omega arith), ne_eqb p n (λ e. omega arith)) refl
  ]
]

count_more : (found : List Finding) (n : ℕ)
    → count_by (λ f. nat_lt (rank f.code) (n + 1)) found ≡ count_by (λ f. nat_lt (rank f.code) n) found + count_by (λ f. rank f.code == n) found
count_more [] n = refl
count_more (f ∷ found) n =
    omega (
      arith,
      count_more found n,
      test_more (rank f.code) n,
      sum_by-cons (λ (g : Finding). cond (nat_lt (rank g.code) (n + 1)) 1 0) f found,
      sum_by-cons (λ (g : Finding). cond (nat_lt (rank g.code) n) 1 0) f found,
      sum_by-cons (λ (g : Finding). cond (rank g.code == n) 1 0) f found,
    )

count_none : (found : List Finding) → count_by (λ f. nat_lt (rank f.code) 0) found ≡ 0
count_none [] = refl
count_none (f ∷ found) =
    let none : ◌≡◌ {A = ℕ} (cond (nat_lt (rank f.code) 0) 1 0) 0 = rw (le-ltb (rank f.code) 0 (omega arith)) refl in
    omega (arith, count_none found, none, sum_by-cons (λ (g : Finding). cond (nat_lt (rank g.code) 0) 1 0) f found)

test_both : (b : Bool) → cond b 1 0 + cond (not b) 1 0 ≡ 1
test_both true = refl
test_both false = refl

count_both : (found : List Finding)
    → count_by (λ f. nat_lt (rank f.code) CODE_COUNT) found ≡ count_by (λ f. is_fault f.code) found + count_by (λ f. not (is_fault f.code)) found
count_both [] = refl
count_both (f ∷ found) =
    let one : ◌≡◌ {A = ℕ} (cond (nat_lt (rank f.code) CODE_COUNT) 1 0) 1 = rw (lt-ltb (rank f.code) CODE_COUNT (rank-below f.code)) refl in
    omega (
      arith,
      count_both found,
      one,
      test_both (is_fault f.code),
      sum_by-cons (λ (g : Finding). cond (nat_lt (rank g.code) CODE_COUNT) 1 0) f found,
      sum_by-cons (λ (g : Finding). cond (is_fault g.code) 1 0) f found,
      sum_by-cons (λ (g : Finding). cond (not (is_fault g.code)) 1 0) f found,
    )

-- the first counts add up to the findings of the first ranks
first_counts : (found : List Finding) (counts : List ℕ) → length counts ≡ CODE_COUNT
    → ((code : Code) → slice_index counts (rank code) ≡ count_by (λ f. rank f.code == rank code) found)
    → (n : ℕ) → n ≤ CODE_COUNT → sum (take n counts) ≡ count_by (λ f. nat_lt (rank f.code) n) found
first_counts found counts long each zero within = sym (count_none found)
first_counts found counts long each (suc n) within =
    let code = get_or finding_order n F1 in
    let at : rank code ≡ n = rank_at n F1 (omega arith) in
    let here : slice_index counts n ≡ count_by (λ f. rank f.code == n) found =
    subst (λ (p : ℕ). slice_index counts p ≡ count_by (λ f. rank f.code == p) found) at (each code) in
    let more = sum_by_more (λ (x : ℕ). x) counts n 0 (omega arith) in
    rw (← add-one) (omega (arith, first_counts found counts long each n (omega arith), here, more, count_more found n))

pub law_counts_are_of_the_report : CountsAreOfTheReport
law_counts_are_of_the_report level found counts are is =
    let each : (code : Code) → slice_index counts (rank code) ≡ count_by (λ f. rank f.code == rank code) found =
    λ code. count_of_report _ found code (slice_index counts (rank code)) are (is.each code) in
    let faults = first_counts found counts is.all each 18 (omega arith) in
    let all = first_counts found counts is.all each CODE_COUNT (omega arith) in
    let whole : take CODE_COUNT counts ≡ counts = take_all CODE_COUNT counts (omega (arith, is.all)) in
    let behind : take 12 (drop 18 counts) ≡ drop 18 counts = take_all 12 (drop 18 counts) (omega (arith, is.all, length-drop 18 counts)) in
    record {
      each = each;
      faults = faults;
      notes = rw behind (omega (arith, faults, rw whole at all, count_both found, sum_by-take-drop (λ (x : ℕ). x) counts 18));
    }
