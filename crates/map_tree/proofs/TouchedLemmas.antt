-- The sectors whose number is above 0.
use Rattle.std.proofs.Common.{ℕ, zero, suc, ◌+◌, ◌<◌, ◌≡◌, ◌≢◌, inl, inr, refl, sym, ap, ◌∙◌, subst, List, [], ◌∷◌, ◌++◌, length, get_or, set, map, replicate, length-append, arith}
use Rattle.std.specs.List.{All, Contains}
use Rattle.std.specs.List.Sorted.{IsPermutation, IsNonDecreasing}
use Rattle.std.proofs.Math.Dec.{eqb}
use Rattle.std.proofs.Math.ListN.{get_or-eq_default}
use Rattle.std.proofs.lemmas.Bool.{cases_eq, cases_lt}
use Rattle.std.proofs.lemmas.Bool.Decides.{Decides-eqb, eqb_tells}
use Rattle.std.proofs.lemmas.List.{length-set, get_or_default, get_or_push, get_or_append_left, get_or-set_same, get_or-set_other, get_or-map, length-map}
use Rattle.std.proofs.lemmas.List.Elements.{All-map, All-nil, All-push, Contains-push, Contains-append_left, Contains-append_cases}
use Rattle.std.proofs.lemmas.List.Quantifiers.{all_pairs_push}
use Rattle.std.proofs.lemmas.List.Sorted.{All-permutation, Contains-permutation}
use Rattle.std.proofs.lemmas.List.Kept.{AllPairs-from_increasing}
use Rattle.std.proofs.lemmas.Map.Keys.{IsDistinct-IsPermutation, IsStrictlyIncreasing-from_distinct}
use Rattle.std.proofs.lemmas.Map.Made.{AllPairs-from_IsDistinct, IsDistinct-from_AllPairs}
use Rattle.map_tree.specs.Counts.{ArePairs}
use Rattle.map_tree.specs.Touched.{Touches}

-- a list of one value has it at each place, as one past its end is read, too
pub get_or-alike : {X : Type 0} (n i : ℕ) (x : X) → get_or (replicate n x) i x ≡ x
get_or-alike zero i x = refl
get_or-alike (suc n) zero x = refl
get_or-alike (suc n) (suc i) x = get_or-alike n i x

-- no number of so many zeros is above 0
none_above : (n s : ℕ) → 0 < get_or (replicate n 0) s 0 → ⊥
none_above n s above = omega (arith, above, get_or-alike {X = ℕ} n s 0)

-- of numbers that are all 0 none is listed
pub Touches-none : (n : ℕ) → Touches (replicate n 0) []
Touches-none n = record {
  some = All-nil _;
  once = λ i j d h k. absurd (omega arith);
  each = λ s above. absurd (none_above n s above);
}

-- a sector with a number above 0 has a place in the list
pub touched_within : (numbers : List ℕ) (s : ℕ) → 0 < get_or numbers s 0 → s < length numbers
touched_within numbers s some = elim (cases_lt s (length numbers)) [
  | inl h ↦ h
  | inr h ↦ absurd (omega (arith, some, get_or-eq_default numbers 0 {n = s} (omega (arith, h))))
]

pub all_touched_within : (numbers touched : List ℕ) → Touches numbers touched → All (λ s. s < length numbers) touched
all_touched_within numbers touched touches = λ k d h. touched_within numbers (get_or touched k d) (touches.some k d h)

-- a sector that has no number yet is listed with its first one
pub Touches-first : (numbers touched : List ℕ) (s n : ℕ) → s < length numbers → get_or numbers s 0 ≡ 0 → 0 < n → Touches numbers touched → Touches (set numbers s n) (touched ++ s ∷ [])
Touches-first numbers touched s n within none above touches =
    let apart : (k d : ℕ) → k < length touched → get_or touched k d ≢ s = λ k d h e.
    let some : 0 < get_or numbers (get_or touched k d) 0 = touches.some k d h in
    omega (arith, none, subst (λ t. 0 < get_or numbers t 0) e some) in
    record {
      some = All-push (λ t. 0 < get_or (set numbers s n) t 0) touched s
          (λ k d h. subst (λ m. 0 < m) (sym (get_or-set_other numbers s (get_or touched k d) n 0 (apart k d h))) (touches.some k d h))
          (subst (λ m. 0 < m) (sym (get_or-set_same numbers s n 0 within)) above);
      once = all_pairs_push (λ t u. t ≢ u) touched s touches.once apart;
      each = λ t some. elim (cases_eq t s) [
        | inl e ↦ subst (Contains (touched ++ s ∷ [])) (sym e) (Contains-push touched s)
        | inr e ↦ Contains-append_left touched _ _ (touches.each t (subst (λ m. 0 < m) (get_or-set_other numbers s t n 0 e) some))
      ];
    }

-- a sector that has a number stays listed with a greater one
pub Touches-more : (numbers touched : List ℕ) (s n : ℕ) → s < length numbers → 0 < get_or numbers s 0 → 0 < n → Touches numbers touched → Touches (set numbers s n) touched
Touches-more numbers touched s n within some above touches =
    let still : (t : ℕ) → 0 < get_or numbers t 0 → 0 < get_or (set numbers s n) t 0 = λ t old. elim (cases_eq t s) [
      | inl e ↦ subst (λ m. 0 < m) (sym (ap (λ u. get_or (set numbers s n) u 0) e ∙ get_or-set_same numbers s n 0 within)) above
      | inr e ↦ subst (λ m. 0 < m) (sym (get_or-set_other numbers s t n 0 e)) old
    ] in
    record {
      some = λ k d h. still (get_or touched k d) (touches.some k d h);
      once = touches.once;
      each = λ t new. elim (cases_eq t s) [
        | inl e ↦ touches.each t (subst (λ u. 0 < get_or numbers u 0) (sym e) some)
        | inr e ↦ touches.each t (subst (λ m. 0 < m) (get_or-set_other numbers s t n 0 e) new)
      ];
    }

-- a turn of the list, after the number at k was found to be 0, or not
pub Touches-added : (numbers touched after : List ℕ) (s k n points found : ℕ) → k ≡ s → s < length numbers → found ≡ get_or numbers k found → 0 < points
    → (found ≡ 0 → after ≡ touched ++ s ∷ []) → (found ≢ 0 → after ≡ touched) → Touches numbers touched → Touches (set numbers k (n + points)) after
Touches-added numbers touched after s k n points found same within is above first more touches =
    let there : found ≡ get_or numbers s 0 = is ∙ ap (λ i. get_or numbers i found) same ∙ get_or_default numbers s found 0 within in
    rw same (elim (cases_eq found 0) [
      | inl none ↦ rw (first none) (Touches-first numbers touched s (n + points) within (sym there ∙ none) (omega (arith, above)) touches)
      | inr some ↦ rw (more some) (Touches-more numbers touched s (n + points) within (subst (λ m. 0 < m) there (omega (arith, some))) (omega (arith, above)) touches)
    ])

flips : (x y : ℕ) → eqb x y ≡ eqb y x
flips x y = elim (eqb_tells x y) [
  | inl a ↦ rw a.1 refl
  | inr a ↦ elim (eqb_tells y x) [
    | inl b ↦ absurd (a.1 (sym b.1))
    | inr b ↦ a.0 ∙ sym b.0
  ]
]

-- in another order they are the same
pub Touches-sorted : (numbers touched sorted : List ℕ) → IsPermutation touched sorted → Touches numbers touched → Touches numbers sorted
Touches-sorted numbers touched sorted moved touches = record {
  some = All-permutation (λ s. 0 < get_or numbers s 0) touched sorted moved touches.some;
  once = AllPairs-from_IsDistinct Decides-eqb sorted (IsDistinct-IsPermutation eqb flips touched sorted moved (IsDistinct-from_AllPairs Decides-eqb touched touches.once));
  each = λ s some. Contains-permutation touched sorted s moved (touches.each s some);
}

-- in ascending order they and their numbers are the pairs
pub pairs_from_sorted : (numbers touched : List ℕ) → IsNonDecreasing touched → Touches numbers touched → ArePairs (λ s. get_or numbers s 0) (map (λ s. (s, get_or numbers s 0)) touched)
pairs_from_sorted numbers touched rising touches =
    let pair : ℕ → ℕ × ℕ = λ s. (s, get_or numbers s 0) in
    let long : length (map pair touched) ≡ length touched = length-map touched pair in
    let once = IsDistinct-from_AllPairs Decides-eqb touched touches.once in
    let rise = AllPairs-from_increasing touched (IsStrictlyIncreasing-from_distinct touched rising once) in
    record {
      right = All-map (λ p. p.1 ≡ get_or numbers p.0 0) pair touched (λ k d h. refl);
      some = All-map (λ p. 0 < p.1) pair touched touches.some;
      ascending = λ i j d a b.
          let below : j < length touched = omega (arith, b, long) in
          rw (get_or-map pair touched i 0 d (omega (arith, a, below)), get_or-map pair touched j 0 d below) (rise i j 0 a below);
      each = λ s above.
          let there = touches.each s above in
          (there.0, omega (arith, there.1, long), get_or-map pair touched there.0 s (pair s) there.1 ∙ ap pair there.2);
    }

only_one : (s t : ℕ) → Contains (s ∷ []) t → t ≡ s
only_one s t (zero, within, is) = sym is
only_one s t (suc n, within, is) = absurd (omega arith)

-- when the last of the list is taken off and its number made 0, the others stay listed
module _ (numbers touched front : List ℕ) (s k : ℕ) (ends : touched ≡ front ++ s ∷ []) (same : k ≡ s) (within : All (λ t. t < length numbers) touched) where
  longer : length touched ≡ length front + 1
  longer = ap length ends ∙ length-append front (s ∷ [])

  pub last_within : k < length numbers
  last_within =
      let last = ap (λ xs. get_or xs (length front) 0) ends ∙ get_or_push front s 0 (length front) refl in
      subst (λ t. t < length numbers) (last ∙ sym same) (within (length front) 0 (omega (arith, longer)))

  pub left_within : All (λ t. t < length (set numbers k 0)) front
  left_within i d h =
      let is = ap (λ xs. get_or xs i d) ends ∙ get_or_append_left front (s ∷ []) d i h in
      simp length-set (subst (λ t. t < length numbers) is (within i d (omega (arith, h, longer))))

  pub left_each : ((t : ℕ) → 0 < get_or numbers t 0 → Contains touched t) → (t : ℕ) → 0 < get_or (set numbers k 0) t 0 → Contains front t
  left_each each t above = elim (cases_eq t k) [
    | inl e ↦ absurd (omega (arith, subst (λ u. 0 < get_or (set numbers k 0) u 0) e above, get_or-set_same numbers k 0 0 last_within))
    | inr e ↦ elim (Contains-append_cases front (s ∷ []) t (subst (λ xs. Contains xs t) ends (each t (subst (λ m. 0 < m) (get_or-set_other numbers k t 0 0 e) above)))) [
      | inl h ↦ h
      | inr h ↦ absurd (e (only_one s t h ∙ sym same))
    ]
  ]
