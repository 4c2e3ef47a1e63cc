-- Labels, the holders of their names, and the levels so far.
use Rattle.std.proofs.Common.{◌≡◌, inl, inr, ◌↔◌, ℕ, ◌+◌, ◌<◌, ◌≤◌, Bool, true, false, IsTrue, List, [], ◌∷◌, ◌++◌, length, drop, get_or, Some, None, refl, sym, ap, ◌∙◌, subst, arith}
use Rattle.std.specs.Prelude.{All, AllPairs, Contains, map}
use Rattle.std.specs.List.{slice_get, flat_map}
use Rattle.std.proofs.lemmas.Bool.{cases_eq, false≢true}
use Rattle.std.proofs.lemmas.List.{get_or-map, length-map, map_push}
use Rattle.std.proofs.lemmas.List.Elements.{All-contains, All-push, Contains-append_left, Contains-get_or, Contains-push, Contains-push_cases}
use Rattle.std.proofs.lemmas.List.Quantifiers.{all_pairs_push}
use Rattle.std.proofs.lemmas.Option.{slice_get_within, slice_get-get_or, none-some}
use Rattle.line_io.proofs.RestLemmas.{drop-at}
use Rattle.look_engines.specs.Engines.Levels.{AreLabels, AreListed, IsLabel, IsListed, level_line}
use Rattle.look_engines.specs.declared.engines.levels.Listed.{Listed}

-- ten entries are behind a label
pub label_within : (all : List (List ℕ)) (g : ℕ) → IsLabel all g → g + 10 < length all
label_within all g label = slice_get_within all (g + 10) _ (label 10 (omega arith) (omega arith))

-- the labels below a number
pub record AreLabelsBelow (all : List (List ℕ)) (n : ℕ) (labels : List ℕ) : Type 0 where
  pub ascending : AllPairs (λ a b. a < b) labels
  pub exact : (g : ℕ) → Contains labels g ↔ (IsLabel all g × (g < n))

pub labels_skip : (all : List (List ℕ)) (n : ℕ) (labels : List ℕ) → AreLabelsBelow all n labels → ¬ IsLabel all n → AreLabelsBelow all (n + 1) labels
labels_skip all n labels so_far none = record {
  ascending = so_far.ascending;
  exact = λ g. (
    (λ there. let is = (so_far.exact g).0 there in (is.0, omega (arith, is.1))),
    λ is. (so_far.exact g).1 (
      is.0,
      elim (cases_eq g n) [
        | inl here ↦ absurd (none (subst (IsLabel all) here is.0))
        | inr other ↦ omega (arith, is.1, other)
      ],
    ),
  );
}

pub labels_more : (all : List (List ℕ)) (n : ℕ) (labels : List ℕ) → AreLabelsBelow all n labels → IsLabel all n → AreLabelsBelow all (n + 1) (labels ++ n ∷ [])
labels_more all n labels so_far is = record {
  ascending = all_pairs_push (λ (a b : ℕ). a < b) labels n so_far.ascending (λ k d below. ((so_far.exact (get_or labels k d)).0 (Contains-get_or labels k d below)).1);
  exact = λ g. (
    (λ there. elim (Contains-push_cases labels n g there) [
      | inl old ↦ (let told = (so_far.exact g).0 old in (told.0, omega (arith, told.1)))
      | inr same ↦ subst (λ (m : ℕ). IsLabel all m × (m < n + 1)) same (is, omega arith)
    ]),
    λ told. elim (cases_eq g n) [
      | inl at ↦ subst (λ (m : ℕ). Contains (labels ++ n ∷ []) m) (sym at) (Contains-push labels n)
      | inr apart ↦ Contains-append_left labels (n ∷ []) g ((so_far.exact g).1 (told.0, omega (arith, told.1, apart)))
    ],
  );
}

pub labels_all : (all : List (List ℕ)) (n : ℕ) (labels : List ℕ) → length all ≤ n + 10 → AreLabelsBelow all n labels → AreLabels all labels
labels_all all n labels whole so_far = record {
  ascending = so_far.ascending;
  exact = λ g. ((λ there. ((so_far.exact g).0 there).0), λ is. (so_far.exact g).1 (is, omega (arith, label_within all g is)));
}

-- a label has a name
pub label_named : (all : List (List ℕ)) (g : ℕ) → IsLabel all g → slice_get all g ≡ None → ⊥
label_named all g label none =
    let within = label_within all g label in
    none-some (get_or all g []) (sym none ∙ slice_get-get_or all g [] (omega (arith, within)))

same_hidden : (a b : Bool) (P : Type 0) → IsTrue a ↔ P → IsTrue b ↔ P → a ≡ b
same_hidden true true P p q = refl
same_hidden false false P p q = refl
same_hidden true false P p q = absurd (false≢true (q.1 (p.0 refl)))
same_hidden false true P p q = absurd (false≢true (p.1 (q.0 refl)))

-- a label is listed in one way
one_listed : (all : List (List ℕ)) (a b : Listed) → IsListed all a → IsListed all b → a.label ≡ b.label → a ≡ b
one_listed all a b p q same =
    let names : Some a.name ≡ Some b.name = sym p.named ∙ ap (slice_get all) same ∙ q.named in
    let name : a.name ≡ b.name = cc in
    let hidden : a.hidden ≡ b.hidden = same_hidden a.hidden b.hidden _ p.hidden (rw (← same, ← name) at q.hidden) in
    ap (λ l. let x : Listed = record { label = l; name = a.name; hidden = a.hidden } in x) same
    ∙ ap (λ n. let x : Listed = record { label = b.label; name = n; hidden = a.hidden } in x) name
    ∙ ap (λ h. let x : Listed = record { label = b.label; name = b.name; hidden = h } in x) hidden

-- the levels of labels
pub record AreLevelsOf (all : List (List ℕ)) (labels : List ℕ) (found : List Listed) : Type 0 where
  pub labelled : map (λ (level : Listed). level.label) found ≡ labels
  pub each : All (IsListed all) found

pub levels_more : (all : List (List ℕ)) (labels : List ℕ) (found : List Listed) (level : Listed) → AreLevelsOf all labels found → IsListed all level
    → AreLevelsOf all (labels ++ level.label ∷ []) (found ++ level ∷ [])
levels_more all labels found level so_far is = record {
  labelled = map_push (λ (l : Listed). l.label) found level ∙ ap (λ xs. xs ++ level.label ∷ []) so_far.labelled;
  each = All-push (IsListed all) found level so_far.each is;
}

module _ (all : List (List ℕ)) (labels : List ℕ) (found : List Listed) (are : AreLabels all labels) (levels : AreLevelsOf all labels found) where
  as_many : length labels ≡ length found
  as_many = ap length (sym levels.labelled) ∙ length-map found (λ (l : Listed). l.label)

  label-at : (i : ℕ) (d : Listed) (e : ℕ) → i < length found → get_or labels i e ≡ (get_or found i d).label
  label-at i d e below = ap (λ (xs : List ℕ). get_or xs i e) (sym levels.labelled) ∙ get_or-map (λ (l : Listed). l.label) found i d e below

  pub levels_all : AreListed all found
  levels_all = record {
    ascending = λ i j d below within.
        let first = label-at i d d.label (omega (arith, within)) in
        let second = label-at j d d.label within in
        let before = are.ascending i j d.label below (omega (arith, as_many)) in
        omega (arith, first, second, before);
    exact = λ level. (
      (λ there. All-contains (IsListed all) found level levels.each there),
      λ is.
          let there = (are.exact level.label).1 is.label in
          let k = there.0 in
          let within : k < length found = omega (arith, there.1, as_many) in
          let other = get_or found k level in
          let same : level.label ≡ other.label = sym there.2 ∙ label-at k level level.label within in
          let other_is = All-contains (IsListed all) found other levels.each (Contains-get_or found k level within) in
          subst (Contains found) (sym (one_listed all level other is other_is same)) (Contains-get_or found k level within),
    );
  }

-- the lines of the levels from one on
pub level_lines-drop : (found : List Listed) (i : ℕ) (level : Listed) → slice_get found i ≡ Some level
    → flat_map level_line (drop i found) ≡ level_line level ++ flat_map level_line (drop (i + 1) found)
level_lines-drop found i level at = rw (drop-at found i level at) refl
