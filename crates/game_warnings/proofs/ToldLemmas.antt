-- Facts about what is told, as a search goes on.
use Rattle.std.proofs.Common.{◌≡◌, ℕ, ◌+◌, ◌<◌, ◌≤◌, inl, inr, List, [], ◌∷◌, ◌++◌, length, get_or, take, refl, sym, ap, subst, arith}
use Rattle.std.specs.Prelude.{Contains, nat_lt, if◌then◌else◌}
use Rattle.std.proofs.lemmas.Bool.{cases_eq, cases_lt}
use Rattle.std.proofs.lemmas.Bool.Decides.{nat_tests}
use Rattle.std.proofs.lemmas.List.{length-append, length-take, take_all, take-append-le}
use Rattle.std.proofs.lemmas.List.Quantifiers.{all_pairs_push}
use Rattle.std.proofs.lemmas.List.Elements.{Contains-push, Contains-push_cases, Contains-append_left, Contains-get_or}
use Rattle.game_warnings.specs.declared.warning.GameWarning.{GameWarning}
use Rattle.game_warnings.specs.Warnings.{rank, Cut, IsCut, Tells, TellsBelow, cut_with}

-- a cut with one warning more is a cut of the list with one more
first-more : (all first : List GameWarning) (most : ℕ) (w : GameWarning) → first ≡ take most all
    → (if nat_lt (length first) most then first ++ w ∷ [] else first) ≡ take most (all ++ w ∷ [])
first-more all first most w is = elim (cases_lt (length all) most) [
  | inl below ↦ grind (arith, nat_tests, is, length-take {A = GameWarning}, take_all {A = GameWarning}, length-append {A = GameWarning})
  | inr past ↦ grind (arith, nat_tests, is, length-take {A = GameWarning}, take-append-le {A = GameWarning})
]

IsCut-with : (all : List GameWarning) (cut : Cut) (w : GameWarning) → IsCut all cut → IsCut (all ++ w ∷ []) (cut_with cut w)
IsCut-with all cut w is = record {
  first = first-more all cut.first cut.most w is.first;
  count = omega (arith, is.count, length-append all (w ∷ []));
}

-- one warning more
pub told_more : (holds : GameWarning → Type 0) (cut : Cut) (w : GameWarning) → TellsBelow holds (rank w) cut → holds w
    → ((v : GameWarning) → holds v → rank v ≡ rank w → v ≡ w) → TellsBelow holds (rank w + 1) (cut_with cut w)
told_more holds cut w before here alone = record {
  all = before.all ++ w ∷ [];
  are = record {
    ascending = all_pairs_push (λ a b. rank a < rank b) before.all w before.are.ascending (λ k d below.
        ((before.are.exact (get_or before.all k d)).0 (Contains-get_or before.all k d below)).1);
    exact = λ h. (
      (λ there. elim (Contains-push_cases before.all w h there) [
        | inl old ↦ let told = (before.are.exact h).0 old in (told.0, omega (arith, told.1))
        | inr is ↦ subst (λ v. holds v × (rank v < rank w + 1)) is (here, omega arith)
      ]),
      (λ told. elim (cases_eq (rank h) (rank w)) [
        | inl equal ↦ subst (λ v. Contains (before.all ++ w ∷ []) v) (sym (alone h told.0 equal)) (Contains-push before.all w)
        | inr other ↦ Contains-append_left before.all (w ∷ []) h ((before.are.exact h).1 (told.0, omega (arith, told.1, other)))
      ]),
    );
  };
  is = IsCut-with before.all cut w before.is;
}

-- where none holds up to a number
pub told_past : (holds : GameWarning → Type 0) (cut : Cut) (from to : ℕ) → TellsBelow holds from cut → from ≤ to
    → ((v : GameWarning) → holds v → from ≤ rank v → rank v < to → ⊥) → TellsBelow holds to cut
told_past holds cut from to before le none = record {
  all = before.all;
  are = record {
    ascending = before.are.ascending;
    exact = λ h. (
      (λ there. let told = (before.are.exact h).0 there in (told.0, omega (arith, told.1, le))),
      (λ told. elim (cases_lt (rank h) from) [
        | inl below ↦ (before.are.exact h).1 (told.0, below)
        | inr past ↦ absurd (none h told.0 (omega (arith, past)) told.1)
      ]),
    );
  };
  is = before.is;
}

-- where a warning doesn't hold
pub told_without : (holds : GameWarning → Type 0) (cut : Cut) (w : GameWarning) → TellsBelow holds (rank w) cut → (¬ holds w)
    → ((v : GameWarning) → holds v → rank v ≡ rank w → v ≡ w) → TellsBelow holds (rank w + 1) cut
told_without holds cut w before other alone =
    told_past holds cut (rank w) (rank w + 1) before (omega arith) (λ v h from to.
    other (subst holds (alone v h (omega (arith, from, to))) h))

-- nothing is told at the start
pub told_none : (holds : GameWarning → Type 0) (most : ℕ) → TellsBelow holds 0 (record { most = most; first = []; count = 0 })
told_none holds most = record {
  all = [];
  are = record {
    ascending = λ i j d below within. absurd (omega (arith, within));
    exact = λ h. ((λ there. absurd (omega (arith, there.1))), (λ told. absurd (omega (arith, told.1))));
  };
  is = record { first = grind arith; count = refl };
}

-- all is told once no warning stands from a number on
pub told_all : (holds : GameWarning → Type 0) (cut : Cut) (bound : ℕ) → TellsBelow holds bound cut
    → ((v : GameWarning) → holds v → rank v < bound) → Tells holds cut
told_all holds cut bound before within = record {
  all = before.all;
  are = record {
    ascending = before.are.ascending;
    exact = λ h. ((λ there. ((before.are.exact h).0 there).0), (λ told. (before.are.exact h).1 (told, within h told)));
  };
  is = before.is;
}

-- what holds once at most
pub told_only : (holds : GameWarning → Type 0) (most : ℕ) (w : GameWarning) → holds w → ((v : GameWarning) → holds v → v ≡ w)
    → Tells holds (cut_with (record { most = most; first = []; count = 0 }) w)
told_only holds most w here alone =
    let none : Cut = record { most = most; first = []; count = 0 } in
    let below = told_past holds none 0 (rank w) (told_none holds most) (omega arith) (λ v h from to.
    absurd (omega (arith, to, ap rank (alone v h)))) in
    told_all holds (cut_with none w) (rank w + 1) (told_more holds none w below here (λ v h same. alone v h))
    (λ v h. omega (arith, ap rank (alone v h)))

pub told_nothing : (holds : GameWarning → Type 0) (most : ℕ) → ((v : GameWarning) → ¬ holds v) → Tells holds (record { most = most; first = []; count = 0 })
told_nothing holds most none = told_all holds (record { most = most; first = []; count = 0 }) 0 (told_none holds most) (λ v h. absurd (none v h))
