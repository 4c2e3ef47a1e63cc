-- The pairs of the first numbers of a list.
use Rattle.std.proofs.Common.{ℕ, ◌+◌, ◌<◌, ◌≤◌, ◌≡◌, inl, inr, ap, subst, Some, ◌∙◌, List, [], ◌∷◌, ◌++◌, length, get_or, arith}
use Rattle.std.proofs.lemmas.Bool.{cases_lt, cases_eq}
use Rattle.std.proofs.lemmas.List.Elements.{All-nil, All-push, Contains-push, Contains-append_left}
use Rattle.std.proofs.lemmas.List.Quantifiers.{all_pairs_push}
use Rattle.std.proofs.lemmas.Option.{get_or_from_slice_get, slice_get-get_or, slice_get_within}
use Rattle.std.proofs.Math.ListN.{get_or-eq_default}
use Rattle.std.specs.List.{All, AllPairs, Contains}
use Rattle.map_tree.specs.Counts.{ArePairs}
use Rattle.map_tree.specs.Laws.{NoPairTells, PairTells}

pub record SoFar (counts : List ℕ) (i : ℕ) (pairs : List (ℕ × ℕ)) : Type 0 where
  pub right : All (λ p. p.1 ≡ get_or counts p.0 0) pairs
  pub some : All (λ p. 0 < p.1) pairs
  pub below : All (λ p. p.0 < i) pairs
  pub ascending : AllPairs (λ p q. p.0 < q.0) pairs
  pub each : (s : ℕ) → s < i → 0 < get_or counts s 0 → Contains pairs (s, get_or counts s 0)

cases_below : (s i : ℕ) → s < i + 1 → (s ≡ i → ⊥) → s < i
cases_below s i h k = omega arith

pub SoFar-start : (counts : List ℕ) → SoFar counts 0 []
SoFar-start counts = record {
  right = All-nil _;
  some = All-nil _;
  below = All-nil _;
  ascending = λ i j d h k. absurd (omega arith);
  each = λ s h. absurd (omega arith);
}

pub SoFar-skip : (counts : List ℕ) (i : ℕ) (pairs : List (ℕ × ℕ)) → i < length counts → get_or counts i 0 ≡ 0 → SoFar counts i pairs → SoFar counts (i + 1) pairs
SoFar-skip counts i pairs within none so_far = record {
  right = so_far.right;
  some = so_far.some;
  below = λ k d h. let b = so_far.below k d h in omega arith;
  ascending = so_far.ascending;
  each = λ s h above. elim (cases_eq s i) [
    | inl e ↦ absurd (omega (arith, rw e at above))
    | inr e ↦ so_far.each s (cases_below s i h e) above
  ];
}

pub SoFar-push : (counts : List ℕ) (i n : ℕ) (pairs : List (ℕ × ℕ)) → i < length counts → n ≡ get_or counts i 0 → 0 < n → SoFar counts i pairs → SoFar counts (i + 1) (pairs ++ ((i, n) ∷ []))
SoFar-push counts i n pairs within e above so_far = record {
  right = All-push (λ p. p.1 ≡ get_or counts p.0 0) pairs (i, n) so_far.right e;
  some = All-push (λ p. 0 < p.1) pairs (i, n) so_far.some above;
  below = All-push (λ p. p.0 < i + 1) pairs (i, n) (λ k d h. let b = so_far.below k d h in omega arith) (omega arith);
  ascending = all_pairs_push (λ p q. p.0 < q.0) pairs (i, n) so_far.ascending so_far.below;
  each = λ s h some. elim (cases_eq s i) [
    | inl same ↦ rw (same, ← e) (Contains-push pairs (i, n))
    | inr other ↦ Contains-append_left pairs _ _ (so_far.each s (cases_below s i h other) some)
  ];
}

pub SoFar-end : (counts : List ℕ) (i : ℕ) (pairs : List (ℕ × ℕ)) → length counts ≤ i → SoFar counts i pairs → ArePairs (λ s. get_or counts s 0) pairs
SoFar-end counts i pairs past so_far = record {
  right = so_far.right;
  some = so_far.some;
  ascending = so_far.ascending;
  each = λ s above. elim (cases_lt s i) [
    | inl h ↦ so_far.each s h above
    | inr h ↦ absurd (omega (arith, above, get_or-eq_default counts 0 {n = s} (omega arith)))
  ];
}

pub pair_tells : PairTells
pair_tells count pairs i s n are e =
    subst (λ p. p.1 ≡ count p.0) (get_or_from_slice_get pairs i (s, n) (s, n) e) (are.right i (s, n) (slice_get_within pairs i (s, n) e))

pub no_pair_tells : NoPairTells
no_pair_tells count pairs s are none = elim (cases_lt 0 (count s)) [
  | inl some ↦
      let found = are.each s some in
      absurd (none found.0 (count s) found.1 (slice_get-get_or pairs found.0 (s, count s) found.1 ∙ ap Some found.2))
  | inr most ↦ omega (arith, most)
]
