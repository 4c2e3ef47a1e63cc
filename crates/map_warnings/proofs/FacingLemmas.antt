-- Runs of segs that face one sector, and the ssectors whose segs face several.
use Rattle.std.proofs.Common.{◌≡◌, ◌≢◌, ℕ, ◌+◌, ◌-◌, ◌<◌, ◌≤◌, ℤ, pos, negsuc, ◌+ℤ◌, ◌<ℤ◌, ◌≤ℤ◌, Bool, true, false, cond, inl, inr, List, length, get_or, set, Option, Some, None, refl, sym, ap, ◌∙◌, arith}
use Rattle.std.specs.Prelude.{int_lt, nat_lt, IsSomeAnd}
use lib.IntN.{nat_abs}
use Rattle.std.specs.List.{slice_get}
use Rattle.std.proofs.lemmas.Bool.{cases_eq, cases_lt, lt-ltb}
use Rattle.std.proofs.lemmas.Bool.Decides.{nat_tests}
use Rattle.std.proofs.lemmas.Int.{ints}
use Rattle.std.proofs.lemmas.Option.{same_Some, slice_get_past}
use Rattle.std.proofs.lemmas.List.{get_or-set_other, get_or-set_same, length-map, length-set}
use Rattle.le_rec.specs.declared.records.SSector.{SSector}
use Rattle.map_level.specs.Level.{Level}
use Rattle.map_level.specs.Links.{segs_of, ssectors_of}
use Rattle.map_level.specs.Reading.{seg_under}
use Rattle.map_warnings.specs.Facing.{sector_faced, faced_by, Mismatch, IsMismatched, IsRunEnd}

-- past the segs none faces a sector
faced_past : (level : Level) (j : ℕ) → length level.segs.records ≤ j → sector_faced level (pos j) ≡ None
faced_past level j past =
    let none : slice_get (segs_of level) j ≡ None = slice_get_past (segs_of level) j (rw (length-map level.segs.records (seg_under level.reading)) past) in
    rw none refl

chosen : (b : Bool) (x : Option ℕ) (a : ℕ) → cond b x None ≡ Some a → (b ≡ true) × (x ≡ Some a)
chosen true x a h = (refl, h)
chosen false x a h = absurd (let f : ⊥ = cc in f)

below_from_test : (k c : ℕ) → nat_lt k c ≡ true → k < c
below_from_test k c h = grind (arith, nat_tests)

-- the k-th of so many segs from one on
faced_at : (level : Level) (f c k a : ℕ) → faced_by level (pos f) (pos c) k ≡ Some a → (k < c) × (sector_faced level (pos (f + k)) ≡ Some a)
faced_at level f c k a h =
    let both = chosen (nat_lt k c) (sector_faced level (pos (f + k))) a h in
    (below_from_test k c both.0, both.1)

at_faced : (level : Level) (f c k a : ℕ) → k < c → sector_faced level (pos (f + k)) ≡ Some a → faced_by level (pos f) (pos c) k ≡ Some a
at_faced level f c k a below h = rw (lt-ltb k c below) h

-- two mismatches of the same segs are one
module _ (level : Level) (first count : ℤ) (a b x y : ℕ) (p : Mismatch level first count a b) (q : Mismatch level first count x y) where
  same_one : a ≡ x
  same_one = same_Some a x (sym (p.before 0 p.some) ∙ q.before 0 q.some)

  same_place : p.k ≡ q.k
  same_place = elim (cases_lt p.k q.k) [
    | inl less ↦ absurd (p.differ (same_Some b a (sym p.here ∙ q.before p.k less ∙ ap Some (sym same_one))))
    | inr past ↦ elim (cases_eq p.k q.k) [
      | inl same ↦ same
      | inr other ↦ absurd (q.differ (same_Some y x (sym q.here ∙ p.before q.k (omega (arith, past, other)) ∙ ap Some same_one)))
    ]
  ]

  pub one_mismatch : (a ≡ x) × (b ≡ y)
  one_mismatch = (same_one, same_Some b y (sym p.here ∙ ap (faced_by level first count) same_place ∙ q.here))

pub one_mismatched : (level : Level) (t a b x y : ℕ) → IsMismatched level t a b → IsMismatched level t x y → (a ≡ x) × (b ≡ y)
one_mismatched level t a b x y p q = go (slice_get (ssectors_of level) t) p q where
  go : (o : Option SSector) → IsSomeAnd o (λ s. Mismatch level s.first s.count a b) → IsSomeAnd o (λ s. Mismatch level s.first s.count x y) → (a ≡ x) × (b ≡ y)
  go (Some s) p q = one_mismatch level s.first s.count a b x y p q
  go None p q = absurd p

-- where the run of the first seg ends there is the mismatch
module _ (level : Level) (f c e : ℕ) (run : IsRunEnd level f e) where
  pub mismatch_here : (a b : ℕ) → e - f < c → sector_faced level (pos f) ≡ Some a → sector_faced level (pos e) ≡ Some b → e < length level.segs.records
      → Mismatch level (pos f) (pos c) a b
  mismatch_here a b below one other inside = record {
    k = e - f;
    some = omega (arith, run.after);
    before = λ j less. at_faced level f c j a (omega (arith, below, less)) (run.same (f + j) (omega arith) (omega (arith, less, run.after)) ∙ one);
    here = at_faced level f c (e - f) b below (let is : f + (e - f) ≡ e = omega (arith, run.after) in rw is other);
    differ = λ same. run.other inside (other ∙ ap Some same ∙ sym one);
  }

  -- and nowhere else
  module _ (a b : ℕ) (m : Mismatch level (pos f) (pos c) a b) where
    one_at : (j : ℕ) → j < m.k → sector_faced level (pos (f + j)) ≡ Some a
    one_at j below = (faced_at level f c j a (m.before j below)).1

    first_at : sector_faced level (pos f) ≡ Some a
    first_at = let is : f + 0 ≡ f = omega arith in rw is at (one_at 0 m.some)

    end_at : e - f ≡ m.k
    end_at = elim (cases_lt (e - f) m.k) [
      | inl less ↦
          let is : f + (e - f) ≡ e = omega (arith, run.after) in
          let there : sector_faced level (pos e) ≡ Some a = rw is at (one_at (e - f) less) in
          elim (cases_lt e (length level.segs.records)) [
            | inl inside ↦ absurd (run.other inside (there ∙ sym first_at))
            | inr past ↦ absurd (let none = faced_past level e past in cc)
          ]
      | inr past ↦ elim (cases_eq (e - f) m.k) [
        | inl same ↦ same
        | inr other ↦ absurd (
            let here = (faced_at level f c m.k b m.here).1 in
            let same = run.same (f + m.k) (omega arith) (omega (arith, past, other, run.after)) in
            m.differ (same_Some b a (sym here ∙ same ∙ first_at)))
      ]
    ]

    pub mismatch_below : e - f < c
    mismatch_below = rw end_at (faced_at level f c m.k b m.here).0

    pub mismatch_one : sector_faced level (pos f) ≡ Some a
    mismatch_one = first_at

    pub mismatch_other : sector_faced level (pos e) ≡ Some b
    mismatch_other =
        let is : f + m.k ≡ e = omega (arith, end_at, run.after) in
        rw is at (faced_at level f c m.k b m.here).1

    pub mismatch_inside : e < length level.segs.records
    mismatch_inside = elim (cases_lt e (length level.segs.records)) [
      | inl inside ↦ inside
      | inr past ↦ absurd (let none = faced_past level e past in let some = mismatch_other in cc)
    ]

-- no segs, or none from an index below 0 on, have no mismatch
pub no_mismatch_before : (level : Level) (first count : ℤ) (a b : ℕ) → first <ℤ pos 0 → ¬ Mismatch level first count a b
no_mismatch_before level (pos n) count a b below m = absurd (omega (arith, ints))
no_mismatch_before level (negsuc n) (pos c) a b below m =
    let told = chosen (int_lt (pos 0) (pos c)) (sector_faced level (negsuc n +ℤ pos 0)) a (m.before 0 m.some) in
    let same : negsuc n +ℤ pos 0 ≡ negsuc n = omega (arith, ints) in
    let none : None ≡ Some a = rw same at told.1 in
    absurd (let f : ⊥ = cc in f)
no_mismatch_before level (negsuc n) (negsuc c) a b below m = let none : None ≡ Some a = m.before 0 m.some in absurd (let f : ⊥ = cc in f)

pub no_mismatch_of_none : (level : Level) (first count : ℤ) (a b : ℕ) → count <ℤ pos 0 → ¬ Mismatch level first count a b
no_mismatch_of_none level first (pos c) a b below m = absurd (omega (arith, ints))
no_mismatch_of_none level first (negsuc c) a b below m = let none : None ≡ Some a = m.before 0 m.some in absurd (let f : ⊥ = cc in f)

-- the run of a seg, from that of the next one
pub run_joined : (level : Level) (j e : ℕ) → sector_faced level (pos j) ≡ sector_faced level (pos (j + 1)) → IsRunEnd level (j + 1) e → IsRunEnd level j e
run_joined level j e same next = record {
  after = omega (arith, next.after);
  within = next.within;
  same = λ i from to. elim (cases_eq i j) [
    | inl is ↦ rw is refl
    | inr other ↦ next.same i (omega (arith, from, other)) to ∙ sym same
  ];
  other = λ inside is. next.other inside (is ∙ same);
}

pub run_of_one : (level : Level) (j : ℕ) → j < length level.segs.records
    → (j + 1 < length level.segs.records → sector_faced level (pos (j + 1)) ≢ sector_faced level (pos j)) → IsRunEnd level j (j + 1)
run_of_one level j inside apart = record {
  after = omega arith;
  within = omega (arith, inside);
  same = λ i from to. let is : i ≡ j = omega (arith, from, to) in rw is refl;
  other = apart;
}

-- a run more, in front of the others
pub runs_more : (level : Level) (j : ℕ) (ends : List ℕ) (e : ℕ) → j < length ends → IsRunEnd level j e
    → ((i : ℕ) → j + 1 ≤ i → i < length ends → IsRunEnd level i (get_or ends i 0))
    → (i : ℕ) → j ≤ i → i < length (set ends j e) → IsRunEnd level i (get_or (set ends j e) i 0)
runs_more level j ends e inside here rest i from within = elim (cases_eq i j) [
  | inl is ↦ rw is (rw get_or-set_same here)
  | inr other ↦ rw get_or-set_other (rest i (omega (arith, from, other)) (rw length-set at within))
]

-- a number that isn't below 0 is its absolute value
pub pos-abs : (z : ℤ) → pos 0 ≤ℤ z → pos (nat_abs z) ≡ z
pos-abs (pos n) h = refl
pos-abs (negsuc n) h = absurd (omega (arith, ints))
