-- The loop that counts child words.
use Rattle.std.proofs.Common.{◌≡◌, ◌≢◌, ℕ, ◌+◌, ◌<◌, ◌⊎◌, ◌↔◌, inl, inr, refl, sym, ap, ◌∙◌, List, length, Some, None, IsTrue, arith}
use Rattle.std.specs.Prelude.{slice_index, nat_lt}
use Rattle.std.proofs.lemmas.Bool.{lt-ltb, ltb-true, le-ltb, cond-true, cond-false, cases_lt, cases_eq}
use Rattle.map_geo.specs.declared.sides.Side.{Side}
use Rattle.map_geo.specs.declared.sides.Side.TheVariants.{Front, Back}
use Rattle.node_tree.specs.Shape.{Shape}
use Rattle.map_tree.specs.Paths.{Place, node, ssector}
use Rattle.node_tree.specs.Shape.{node_count, ssector_count, has, child}
use Rattle.node_tree.specs.Slots.{slot, slot_count, child_slot}
use Rattle.node_tree.specs.TreeFaults.{IsNamed, IsNamedTwice}
use Rattle.map_tree.specs.WordCounts.{once_more, IsCounted, AreCounted}
use Rattle.node_tree.specs.WordCounts.{AreWordCounts}
use Rattle.node_tree.proofs.SoundLemmas.{parent_in, child_there}
use Rattle.map_tree.proofs.ReachLemmas.{decide_place, none_or_some}
use Rattle.node_tree.proofs.SlotLemmas.{slot_once, child_slot_of, child_at_slot}

-- a child word that was seen names the place
abbrev pub IsNamedBy : (ℕ → Side → Type 0) → Shape → Place → Type 0
IsNamedBy Seen shape place = (n : ℕ) × (s : Side) × Seen n s × (child shape n s ≡ Some place)

-- two child words that were seen do
pub record IsTwiceBy (Seen : ℕ → Side → Type 0) (shape : Shape) (place : Place) : Type 0 where
  pub twice : IsNamedTwice shape place
  pub one : Seen twice.n twice.s
  pub other : Seen twice.m twice.u

pub record AreCountsBy (Seen : ℕ → Side → Type 0) (shape : Shape) (counts : List ℕ) : Type 0 where
  pub long : length counts ≡ slot_count shape
  pub named : (place : Place) → IsTrue (has shape place)
      → (0 < slice_index counts (slot shape place)) ↔ IsNamedBy Seen shape place
  pub twice : (place : Place) → IsTrue (has shape place)
      → (1 < slice_index counts (slot shape place)) ↔ IsTwiceBy Seen shape place

-- the words of the nodes below n, and these with one of node n
abbrev pub Below : ℕ → ℕ → Side → Type 0
Below n m u = m < n

abbrev pub BelowAndFront : ℕ → ℕ → Side → Type 0
BelowAndFront n m u = (m < n) ⊎ ((m ≡ n) × (u ≡ Front))

once_more_some : (c : ℕ) → 0 < once_more c
once_more_some c = elim (cases_lt c 2) [
  | inl few ↦ rw (cond-true _ (c + 1) c (lt-ltb c 2 few)) (omega arith)
  | inr many ↦ rw (cond-false _ (c + 1) c (le-ltb c 2 many)) (omega arith)
]

once_more_twice : (c : ℕ) → (1 < once_more c) ↔ (0 < c)
once_more_twice c = elim (cases_lt c 2) [
  | inl few ↦ rw (cond-true _ (c + 1) c (lt-ltb c 2 few)) ((λ h. omega arith), (λ h. omega arith))
  | inr many ↦
      rw (cond-false _ (c + 1) c (le-ltb c 2 many)) ((λ h. omega arith), (λ h. omega arith))
]

-- one child word more is seen
pub record IsOneMore (Seen After : ℕ → Side → Type 0) (n : ℕ) (s : Side) : Type 0 where
  pub old : (m : ℕ) (u : Side) → Seen m u → After m u
  pub new : After n s
  pub only : (m : ℕ) (u : Side) → After m u → Seen m u ⊎ ((m ≡ n) × (u ≡ s))
  pub fresh : Seen n s → ⊥

module _ (Seen After : ℕ → Side → Type 0) (shape : Shape) (n : ℕ) (s : Side)
    (more : IsOneMore Seen After n s) where
  -- a place that the new word doesn't name
  old_named : (p : Place) → (child shape n s ≡ Some p → ⊥)
      → IsNamedBy After shape p ↔ IsNamedBy Seen shape p
  old_named p not_here = (
    (λ h. elim (more.only h.0 h.1 h.2) [
      | inl seen ↦ (h.0, h.1, seen, h.3)
      | inr here ↦ absurd (not_here (rw (← here.0, ← here.1) h.3))
    ]),
    (λ h. (h.0, h.1, more.old h.0 h.1 h.2, h.3)),
  )

  seen_here : (p : Place) → (child shape n s ≡ Some p → ⊥) → (m : ℕ) (u : Side) → After m u
      → child shape m u ≡ Some p → Seen m u
  seen_here p not_here m u after e =
      elim (more.only m u after) [
        | inl seen ↦ seen
        | inr here ↦ absurd (not_here (rw (← here.0, ← here.1) e))
      ]

  old_twice : (p : Place) → (child shape n s ≡ Some p → ⊥)
      → IsTwiceBy After shape p ↔ IsTwiceBy Seen shape p
  old_twice p not_here = (
    (λ h. record {
      twice = h.twice;
      one = seen_here p not_here h.twice.n h.twice.s h.one h.twice.names;
      other = seen_here p not_here h.twice.m h.twice.u h.other h.twice.names_too;
    }),
    (λ h. record {
      twice = h.twice;
      one = more.old h.twice.n h.twice.s h.one;
      other = more.old h.twice.m h.twice.u h.other;
    }),
  )

  -- the place that it names
  new_twice : (p : Place) → child shape n s ≡ Some p
      → IsTwiceBy After shape p ↔ IsNamedBy Seen shape p
  new_twice p here = (
    (λ h. elim (more.only h.twice.n h.twice.s h.one) [
      | inl seen ↦ (h.twice.n, h.twice.s, seen, h.twice.names)
      | inr is_new ↦ elim (more.only h.twice.m h.twice.u h.other) [
        | inl seen ↦ (h.twice.m, h.twice.u, seen, h.twice.names_too)
        | inr too ↦ absurd (h.twice.apart (is_new.0 ∙ sym too.0) (is_new.1 ∙ sym too.1))
      ]
    ]),
    (λ h. record {
      twice = record {
        n = h.0;
        s = h.1;
        names = h.3;
        m = n;
        u = s;
        names_too = here;
        apart = λ same sides. more.fresh (rw (← same, ← sides) h.2);
      };
      one = more.old h.0 h.1 h.2;
      other = more.new;
    }),
  )

  here_or_not : (p : Place) → IsTrue (has shape p)
      → (child shape n s ≡ Some p) ⊎ (child shape n s ≡ Some p → ⊥)
  here_or_not p there = elim (none_or_some (child shape n s)) [
    | inl none ↦ inr (λ e. let f : None ≡ Some p = sym none ∙ e in cc)
    | inr some ↦ elim (decide_place some.0 p) [
      | inl same ↦ inl (some.1 ∙ ap Some same)
      | inr other ↦
          inr (λ e. let f : Some some.0 ≡ Some p = sym some.1
          ∙ e in let same : some.0 ≡ p = cc in other same)
    ]
  ]

  other_slot : (p : Place) → IsTrue (has shape p) → (child shape n s ≡ Some p → ⊥)
      → child_slot shape n s ≢ Some (slot shape p)
  other_slot p there not_here e =
      let r = child_at_slot shape n s (slot shape p) e in
      not_here (r.1 ∙ ap Some (slot_once shape r.0 p (child_there shape n s r.0 r.1) there r.2))

  pub counts_more : (before after : List ℕ) → AreCountsBy Seen shape before
      → IsCounted before after (child_slot shape n s) → AreCountsBy After shape after
  counts_more before after counts counted = record {
    long = counted.long ∙ counts.long;
    named = λ p there. elim (here_or_not p there) [
      | inl here ↦
          rw (counted.named (slot shape p) (child_slot_of shape n s p here))
          ((λ h. (n, s, more.new, here)), (λ h. once_more_some (slice_index before (slot shape p))))
      | inr not_here ↦
          let old = counts.named p there in
          let both = old_named p not_here in
          rw (counted.others (slot shape p) (other_slot p there not_here))
          ((λ h. both.1 (old.0 h)), (λ h. old.1 (both.0 h)))
    ];
    twice = λ p there. elim (here_or_not p there) [
      | inl here ↦
          let old = counts.named p there in
          let both = new_twice p here in
          let count = once_more_twice (slice_index before (slot shape p)) in
          rw (counted.named (slot shape p) (child_slot_of shape n s p here))
          ((λ h. both.1 (old.0 (count.0 h))), (λ h. count.1 (old.1 (both.0 h))))
      | inr not_here ↦
          let old = counts.twice p there in
          let both = old_twice p not_here in
          rw (counted.others (slot shape p) (other_slot p there not_here))
          ((λ h. both.1 (old.0 h)), (λ h. old.1 (both.0 h)))
    ];
  }

-- the two words of a node
front_more : (n : ℕ) → IsOneMore (Below n) (BelowAndFront n) n Front
front_more n = record {
  old = λ m u h. inl h;
  new = inr (refl, refl);
  only = λ m u h. h;
  fresh = λ h. omega (arith, h);
}

front_or_back : (n m : ℕ) (u : Side) → m < n + 1 → BelowAndFront n m u ⊎ ((m ≡ n) × (u ≡ Back))
front_or_back n m Front h =
    elim (cases_eq m n) [ inl same ↦ inl (inr (same, refl)) | inr other ↦ inl (inl (omega arith)) ]
front_or_back n m Back h =
    elim (cases_eq m n) [ inl same ↦ inr (same, refl) | inr other ↦ inl (inl (omega arith)) ]

back_more : (n : ℕ) → IsOneMore (BelowAndFront n) (Below (n + 1)) n Back
back_more n = record {
  old = λ m u h. elim h [ inl less ↦ omega (arith, less) | inr same ↦ omega (arith, same.0) ];
  new = omega arith;
  only = front_or_back n;
  fresh = λ h. elim h [ inl less ↦ omega (arith, less) | inr same ↦ let e = same.1 in cc ];
}

pub counts_start : (shape : Shape) (counts : List ℕ) → length counts ≡ slot_count shape
    → ((k : ℕ) → slice_index counts k ≡ 0) → AreCountsBy (Below 0) shape counts
counts_start shape counts long zeros = record {
  long = long;
  named =
      λ p there.
      rw (zeros (slot shape p))
      ((λ h. absurd (omega (arith, h))), (λ h. absurd (omega (arith, h.2))));
  twice =
      λ p there.
      rw (zeros (slot shape p))
      ((λ h. absurd (omega (arith, h))), (λ h. absurd (omega (arith, h.one))));
}

pub counts_node : (shape : Shape) (n : ℕ) (before after : List ℕ)
    → AreCountsBy (Below n) shape before
    → AreCounted before after (child_slot shape n Front) (child_slot shape n Back)
    → AreCountsBy (Below (n + 1)) shape after
counts_node shape n before after counts both =
    counts_more (BelowAndFront n) (Below (n + 1)) shape n Back (back_more n) both.between after
    (counts_more (Below n) (BelowAndFront n) shape n Front
    (front_more n) before both.between counts both.first) both.second

pub counts_end : (shape : Shape) (counts : List ℕ)
    → AreCountsBy (Below (node_count shape)) shape counts → AreWordCounts shape counts
counts_end shape counts all = record {
  long = all.long;
  named = λ p there. (
    (λ h. let r = (all.named p there).0 h in (r.0, r.1, r.3)),
    (λ h. (all.named p there).1 (h.0, h.1, parent_in shape h.0 h.1 p h.2, h.2)),
  );
  twice = λ p there. (
    (λ h. ((all.twice p there).0 h).twice),
    (λ h. (all.twice p there).1 (record {
      twice = h;
      one = parent_in shape h.n h.s p h.names;
      other = parent_in shape h.m h.u p h.names_too;
    })),
  );
}

-- a place that two child words name is named by one
pub named_from_twice : (shape : Shape) (place : Place) → IsNamedTwice shape place
    → IsNamed shape place
named_from_twice shape place twice = (twice.n, twice.s, twice.names)

pub node_counted : (shape : Shape) (counts : List ℕ) (n : ℕ) → AreWordCounts shape counts
    → n < node_count shape
    → IsTrue (nat_lt 0 (slice_index counts n)) ↔ IsNamed shape (node n)
node_counted shape counts n are within =
    let told = are.named (node n) (lt-ltb n (node_count shape) within) in (
      (λ h. told.0 (ltb-true 0 (slice_index counts n) h)),
      (λ h. lt-ltb 0 (slice_index counts n) (told.1 h)),
    )

-- what a count above 1 tells
twice_counted : (shape : Shape) (counts : List ℕ) (p : Place) → AreWordCounts shape counts → IsTrue (has shape p)
    → IsTrue (nat_lt 1 (slice_index counts (slot shape p))) ↔ IsNamedTwice shape p
twice_counted shape counts p are there =
    let told = are.twice p there in (
      (λ h. told.0 (ltb-true 1 (slice_index counts (slot shape p)) h)),
      (λ h. lt-ltb 1 (slice_index counts (slot shape p)) (told.1 h)),
    )

pub node_twice : (shape : Shape) (counts : List ℕ) (n : ℕ) → AreWordCounts shape counts
    → n < node_count shape
    → IsTrue (nat_lt 1 (slice_index counts n)) ↔ IsNamedTwice shape (node n)
node_twice shape counts n are within =
    twice_counted shape counts (node n) are (lt-ltb n (node_count shape) within)

pub ssector_twice : (shape : Shape) (counts : List ℕ) (t : ℕ) → AreWordCounts shape counts
    → t < ssector_count shape
    → IsTrue (nat_lt 1 (slice_index counts (node_count shape + t))) ↔ IsNamedTwice shape (ssector t)
ssector_twice shape counts t are within =
    twice_counted shape counts (ssector t) are (lt-ltb t (ssector_count shape) within)
