-- Facts about what is told, as a search goes on.
use Rattle.std.proofs.Common.{◌≡◌, ◌≢◌, ◌↔◌, ℕ, ◌+◌, ◌-◌, ◌^◌, ◌<◌, ◌≤◌, inl, inr, List, [], ◌∷◌, ◌++◌, length, get_or, take, refl, sym, ap, ◌∙◌, subst, arith}
use Rattle.std.specs.Prelude.{Contains, nat_lt, if◌then◌else◌}
use Rattle.std.proofs.Math.Nat.{min-eq_right}
use Rattle.std.proofs.lemmas.Bool.{cases_eq, cases_lt}
use Rattle.std.proofs.lemmas.Bool.Decides.{nat_tests}
use Rattle.std.proofs.lemmas.List.{length-append, length-take, take_all, take-append-le}
use Rattle.std.proofs.lemmas.List.Quantifiers.{all_pairs_push}
use Rattle.std.proofs.lemmas.List.Elements.{Contains-push, Contains-push_cases, Contains-append_left, Contains-get_or}
use Rattle.map_warnings.specs.declared.warning.Warning.{Warning}
use Rattle.map_warnings.specs.declared.warning.Warning.TheVariants.{NoStart}
use Rattle.map_warnings.specs.Warnings.{AreWarnings, rank, Cut, IsCut, Tells, TellsBelow, cut_with}

-- a cut with one warning more is a cut of the list with one more
first-more : (all first : List Warning) (most : ℕ) (w : Warning) → first ≡ take most all
    → (if nat_lt (length first) most then first ++ w ∷ [] else first) ≡ take most (all ++ w ∷ [])
first-more all first most w is = elim (cases_lt (length all) most) [
  | inl below ↦ grind (arith, nat_tests, is, length-take {A = Warning}, take_all {A = Warning}, length-append {A = Warning})
  | inr past ↦ grind (arith, nat_tests, is, length-take {A = Warning}, take-append-le {A = Warning})
]

IsCut-with : (all : List Warning) (cut : Cut) (w : Warning) → IsCut all cut → IsCut (all ++ w ∷ []) (cut_with cut w)
IsCut-with all cut w is = record {
  first = first-more all cut.first cut.most w is.first;
  count = omega (arith, is.count, length-append all (w ∷ []));
}

-- one warning more
pub told_more : (holds : Warning → Type 0) (cut : Cut) (w : Warning) → TellsBelow holds (rank w) cut → holds w
    → ((v : Warning) → holds v → rank v ≡ rank w → v ≡ w) → TellsBelow holds (rank w + 1) (cut_with cut w)
told_more holds cut w before here alone = record {
  all = before.all ++ w ∷ [];
  are = record {
    ascending = all_pairs_push (λ a b. rank a < rank b) before.all w before.are.ascending (λ k d below.
        ((before.are.exact (get_or before.all k d)).0 (Contains-get_or before.all k d below)).1);
    exact = λ h. (
      (λ there. elim (Contains-push_cases before.all w h there) [
        | inl old ↦ let told = (before.are.exact h).0 old in (told.0, omega (arith, told.1))
        | inr is ↦ subst (λ v. holds v × (rank v < rank w + 1)) is (here, omega arith)
      ]),
      (λ told. elim (cases_eq (rank h) (rank w)) [
        | inl equal ↦ subst (λ v. Contains (before.all ++ w ∷ []) v) (sym (alone h told.0 equal)) (Contains-push before.all w)
        | inr other ↦ Contains-append_left before.all (w ∷ []) h ((before.are.exact h).1 (told.0, omega (arith, told.1, other)))
      ]),
    );
  };
  is = IsCut-with before.all cut w before.is;
}

-- where none holds up to a number
pub told_past : (holds : Warning → Type 0) (cut : Cut) (from to : ℕ) → TellsBelow holds from cut → from ≤ to
    → ((v : Warning) → holds v → from ≤ rank v → rank v < to → ⊥) → TellsBelow holds to cut
told_past holds cut from to before le none = record {
  all = before.all;
  are = record {
    ascending = before.are.ascending;
    exact = λ h. (
      (λ there. let told = (before.are.exact h).0 there in (told.0, omega (arith, told.1, le))),
      (λ told. elim (cases_lt (rank h) from) [
        | inl below ↦ (before.are.exact h).1 (told.0, below)
        | inr past ↦ absurd (none h told.0 (omega (arith, past)) told.1)
      ]),
    );
  };
  is = before.is;
}

-- where a warning doesn't hold
pub told_without : (holds : Warning → Type 0) (cut : Cut) (w : Warning) → TellsBelow holds (rank w) cut → (¬ holds w)
    → ((v : Warning) → holds v → rank v ≡ rank w → v ≡ w) → TellsBelow holds (rank w + 1) cut
told_without holds cut w before other alone =
    told_past holds cut (rank w) (rank w + 1) before (omega arith) (λ v h from to.
    other (subst holds (alone v h (omega (arith, from, to))) h))

-- nothing is told at the start
pub told_none : (holds : Warning → Type 0) (most : ℕ) → TellsBelow holds 0 (record { most = most; first = []; count = 0 })
told_none holds most = record {
  all = [];
  are = record {
    ascending = λ i j d below within. absurd (omega (arith, within));
    exact = λ h. ((λ there. absurd (omega (arith, there.1))), (λ told. absurd (omega (arith, told.1))));
  };
  is = record { first = grind arith; count = refl };
}

-- all is told once no warning stands from a number on
pub told_all : (holds : Warning → Type 0) (cut : Cut) (bound : ℕ) → TellsBelow holds bound cut
    → ((v : Warning) → holds v → rank v < bound) → Tells holds cut
told_all holds cut bound before within = record {
  all = before.all;
  are = record {
    ascending = before.are.ascending;
    exact = λ h. ((λ there. ((before.are.exact h).0 there).0), (λ told. (before.are.exact h).1 (told, within h told)));
  };
  is = before.is;
}

-- what holds once at most
pub told_only : (holds : Warning → Type 0) (most : ℕ) (w : Warning) → holds w → ((v : Warning) → holds v → v ≡ w)
    → Tells holds (cut_with (record { most = most; first = []; count = 0 }) w)
told_only holds most w here alone =
    let none : Cut = record { most = most; first = []; count = 0 } in
    let below = told_past holds none 0 (rank w) (told_none holds most) (omega arith) (λ v h from to.
    absurd (omega (arith, to, ap rank (alone v h)))) in
    told_all holds (cut_with none w) (rank w + 1) (told_more holds none w below here (λ v h same. alone v h))
    (λ v h. omega (arith, ap rank (alone v h)))

pub told_nothing : (holds : Warning → Type 0) (most : ℕ) → ((v : Warning) → ¬ holds v) → Tells holds (record { most = most; first = []; count = 0 })
told_nothing holds most none = told_all holds (record { most = most; first = []; count = 0 }) 0 (told_none holds most) (λ v h. absurd (none v h))

-- what holds where something else does is told there
pub told_given : (given : Type 0) (holds : Warning → Type 0) (cut : Cut) → given → Tells holds cut → Tells (λ w. given × holds w) cut
told_given given holds cut here told = record {
  all = told.all;
  are = record {
    ascending = told.are.ascending;
    exact = λ w. ((λ there. (here, (told.are.exact w).0 there)), (λ h. (told.are.exact w).1 h.1));
  };
  is = told.is;
}

-- some are told exactly where one holds
pub told_some : (holds : Warning → Type 0) (cut : Cut) → Tells holds cut → (0 < cut.count) ↔ ((w : Warning) × holds w)
told_some holds cut told = (
  (λ some.
      let within : 0 < length told.all = omega (arith, told.is.count, some) in
      (get_or told.all 0 (NoStart 0), (told.are.exact (get_or told.all 0 (NoStart 0))).0 (Contains-get_or told.all 0 (NoStart 0) within))),
  (λ some. let there = (told.are.exact some.0).1 some.1 in omega (arith, told.is.count, there.1)),
)

-- a report whose count didn't stop has all warnings, if as many as can be counted are kept
pub told_whole : (holds : Warning → Type 0) (cut : Cut) → Tells holds cut → cut.most ≡ 2 ^ 64 - 1 → cut.count ≢ 2 ^ 64 - 1 → AreWarnings holds cut.first
told_whole holds cut told most fewer =
    let within : length told.all ≤ 2 ^ 64 - 1 = elim (cases_lt (2 ^ 64 - 1) (length told.all)) [
      | inl past ↦ absurd (fewer (told.is.count ∙ min-eq_right (omega (arith, past))))
      | inr below ↦ below
    ] in
    let all = take_all (2 ^ 64 - 1) told.all within in
    subst (AreWarnings holds) (sym (told.is.first ∙ ap (λ n. take n told.all) most ∙ all)) told.are
