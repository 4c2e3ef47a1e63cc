-- Commands of two demos that mean the same, one after another.
use Rattle.std.proofs.Common.{◌≡◌, ◌≢◌, ℕ, zero, suc, ◌+◌, ◌<◌, ◌≤◌, List, [], ◌∷◌, ◌++◌, Some, length, map, take, drop, refl, sym, ap, ◌∙◌, arith}
use Rattle.std.proofs.lemmas.List.{map-append}
use Rattle.std.specs.List.{slice_get}
use Rattle.later_demos.specs.Demo.{Demo}
use Rattle.later_demos.specs.declared.command.LaterCommand.{LaterCommand}
use Rattle.demo_listings.specs.Differences.{StopsAt, meaning_of}
use Rattle.demo_listings.specs.declared.compare.Stop.TheVariants.{Same, Differ, EndOfA, EndOfB}
use Rattle.demo_listings.specs.declared.meaning.Compared.{Compared}
use Rattle.demo_listings.specs.declared.meaning.Meaning.{Meaning}

-- what is known of a list of which a part from a place on begins so
pub record IsHere {X : Type 0} (xs : List X) (i : ℕ) (x : X) (left : List X) : Type 0 where
  pub at : slice_get xs i ≡ Some x
  pub behind : left ≡ drop (i + 1) xs
  pub within : i < length xs
  pub upto : take (i + 1) xs ≡ take i xs ++ x ∷ []

pub here : {X : Type 0} (xs : List X) (i : ℕ) (x : X) (left : List X) → drop i xs ≡ x ∷ left → IsHere xs i x left
here [] zero x left is = absurd (let f : ⊥ = cc in f)
here [] (suc i) x left is = absurd (let f : ⊥ = cc in f)
here (y ∷ xs) zero x left is =
    let same : y ≡ x = cc in
    let rest : xs ≡ left = cc in
    record { at = ap (λ z. Some z) same; behind = sym rest; within = omega arith; upto = ap (λ z. z ∷ []) same }
here (y ∷ xs) (suc i) x left is =
    let next = here xs i x left is in
    let one : suc i + 1 ≡ suc (i + 1) = omega arith in
    record {
      at = next.at;
      behind = next.behind ∙ ap (λ (n : ℕ). drop n (y ∷ xs)) (sym one);
      within = omega (arith, next.within);
      upto = ap (λ (n : ℕ). take n (y ∷ xs)) one ∙ ap (λ zs. y ∷ zs) next.upto;
    }

pub all_taken : {X : Type 0} (xs : List X) (i : ℕ) → drop i xs ≡ [] → i ≤ length xs → (i ≡ length xs) × (take i xs ≡ xs)
all_taken [] zero is within = (refl, refl)
all_taken [] (suc i) is within = absurd (omega (arith, within))
all_taken (y ∷ xs) zero is within = absurd (let f : ⊥ = cc in f)
all_taken (y ∷ xs) (suc i) is within =
    let next = all_taken xs i is (omega (arith, within)) in
    (omega (arith, next.0), ap (λ zs. y ∷ zs) next.1)

module _ (what : Compared) (a b : Demo) where
  abbrev of_a : LaterCommand → Meaning
  of_a = meaning_of what a

  abbrev of_b : LaterCommand → Meaning
  of_b = meaning_of what b

  -- so many commands mean the same, and these are left
  pub record SoSame (i : ℕ) (left_of_a left_of_b : List LaterCommand) : Type 0 where
    pub at_a : left_of_a ≡ drop i a.commands
    pub at_b : left_of_b ≡ drop i b.commands
    pub within_a : i ≤ length a.commands
    pub within_b : i ≤ length b.commands
    pub same : map of_a (take i a.commands) ≡ map of_b (take i b.commands)

  pub SoSame-none : (left_of_a left_of_b : List LaterCommand) → left_of_a ≡ a.commands → left_of_b ≡ b.commands → SoSame 0 left_of_a left_of_b
  SoSame-none left_of_a left_of_b first second =
      record { at_a = first; at_b = second; within_a = omega arith; within_b = omega arith; same = refl }

  module _ (i : ℕ) (left_of_a left_of_b : List LaterCommand) (so : SoSame i left_of_a left_of_b) where
    pub here_a : (x : LaterCommand) (left : List LaterCommand) → left_of_a ≡ x ∷ left → IsHere a.commands i x left
    here_a x left is = here a.commands i x left (sym so.at_a ∙ is)

    pub here_b : (y : LaterCommand) (left : List LaterCommand) → left_of_b ≡ y ∷ left → IsHere b.commands i y left
    here_b y left is = here b.commands i y left (sym so.at_b ∙ is)

    pub SoSame-more : (x y : LaterCommand) (next_of_a next_of_b : List LaterCommand) → left_of_a ≡ x ∷ next_of_a → left_of_b ≡ y ∷ next_of_b
        → of_a x ≡ of_b y → SoSame (i + 1) next_of_a next_of_b
    SoSame-more x y next_of_a next_of_b first second alike =
        let p = here_a x next_of_a first in
        let q = here_b y next_of_b second in
        record {
          at_a = p.behind;
          at_b = q.behind;
          within_a = omega (arith, p.within);
          within_b = omega (arith, q.within);
          same =
              ap (map of_a) p.upto ∙ map-append of_a (take i a.commands) (x ∷ [])
              ∙ ap (λ (ms : List Meaning). ms ++ of_a x ∷ []) so.same
              ∙ ap (λ (m : Meaning). map of_b (take i b.commands) ++ m ∷ []) alike
              ∙ sym (map-append of_b (take i b.commands) (y ∷ []))
              ∙ ap (map of_b) (sym q.upto);
        }

    pub stops_at_commands : (x y : LaterCommand) (next_of_a next_of_b : List LaterCommand) → left_of_a ≡ x ∷ next_of_a → left_of_b ≡ y ∷ next_of_b
        → of_a x ≢ of_b y → StopsAt what a b i (Differ x y)
    stops_at_commands x y next_of_a next_of_b first second differ =
        let p = here_a x next_of_a first in
        let q = here_b y next_of_b second in
        record { before = so.same; of_a = p.at; of_b = q.at; differ = differ }

    pub stops_at_end_of_a : (y : LaterCommand) (next_of_b : List LaterCommand) → left_of_a ≡ [] → left_of_b ≡ y ∷ next_of_b → StopsAt what a b i EndOfA
    stops_at_end_of_a y next_of_b none second =
        let p = all_taken a.commands i (sym so.at_a ∙ none) so.within_a in
        let q = here_b y next_of_b second in (
          ap (map of_a) (sym p.1) ∙ so.same ∙ ap (λ (n : ℕ). map of_b (take n b.commands)) p.0,
          omega (arith, p.0, q.within),
          p.0,
        )

    pub stops_at_end_of_b : (x : LaterCommand) (next_of_a : List LaterCommand) → left_of_a ≡ x ∷ next_of_a → left_of_b ≡ [] → StopsAt what a b i EndOfB
    stops_at_end_of_b x next_of_a first none =
        let p = here_a x next_of_a first in
        let q = all_taken b.commands i (sym so.at_b ∙ none) so.within_b in (
          ap (λ (n : ℕ). map of_a (take n a.commands)) (sym q.0) ∙ so.same ∙ ap (map of_b) q.1,
          omega (arith, q.0, p.within),
          q.0,
        )

    pub stops_at_both_ends : left_of_a ≡ [] → left_of_b ≡ [] → StopsAt what a b i Same
    stops_at_both_ends first second =
        let p = all_taken a.commands i (sym so.at_a ∙ first) so.within_a in
        let q = all_taken b.commands i (sym so.at_b ∙ second) so.within_b in
        ap (map of_a) (sym p.1) ∙ so.same ∙ ap (map of_b) q.1
