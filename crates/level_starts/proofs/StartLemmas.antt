-- Facts about where levels start.
use Rattle.std.proofs.Common.{◌≡◌, inl, inr, ℕ, ◌+◌, ◌<◌, ◌≤◌, List, [], ◌∷◌, get_or, length, Option, sym, ◌∙◌, subst, arith}
use Rattle.std.specs.Prelude.{Contains}
use Rattle.std.specs.Iterator.{Drains}
use Rattle.std.specs.List.{slice_get}
use Rattle.std.specs.Option.{option_map}
use Rattle.std.proofs.lemmas.Bool.{cases_eq, cases_lt}
use Rattle.std.proofs.lemmas.List.{length-map}
use Rattle.std.proofs.lemmas.List.Elements.{Contains-append_cases, Contains-append_left, Contains-append_right, Contains-get_or, Contains-push, Contains-push_cases}
use Rattle.std.proofs.lemmas.List.Kept.{AllPairs-cons}
use Rattle.std.proofs.lemmas.Option.{slice_get-map, slice_get_within}
use Rattle.wad_dir.specs.Wad.{Wad}
use Rattle.wad_dir.specs.Entries.{joined, names, listed_name}
use Rattle.level_starts.specs.Starts.{AreStartsFrom, GivesNextStart, IsNamed, IsNextStart, LevelStartsAt, NoneStartsFrom, StartsLeft}

-- the name of an entry of several files' list
pub named_by : (files : List Wad) (g : ℕ) (name : Option (List ℕ))
    → name ≡ option_map listed_name (slice_get (joined files) g) → name ≡ slice_get (names files) g
named_by files g name is = is ∙ sym (slice_get-map listed_name (joined files) g)

-- an entry that has a name is there
pub named_within : (files : List Wad) (g : ℕ) (name : List ℕ) → IsNamed (names files) g name
    → g < length (joined files)
named_within files g name named =
    omega (arith, slice_get_within (names files) g name named, length-map (joined files) listed_name)

-- a level that starts at an entry has another behind it
pub start_within : (all : List (List ℕ)) (g : ℕ) → LevelStartsAt all g → g < length all
start_within all g starts = elim starts [
  | inl named ↦ omega (arith, slice_get_within all (g + 1) _ named)
  | inr named ↦ omega (arith, slice_get_within all (g + 1) _ named)
]

-- from a number on there is one first start
pub IsNextStart-one : (all : List (List ℕ)) (from g h : ℕ) → IsNextStart all from g
    → IsNextStart all from h → g ≡ h
IsNextStart-one all from g h p q = elim (cases_lt g h) [
  | inl before ↦ absurd (q.first g p.after before p.starts)
  | inr upto ↦
      elim (cases_lt h g) [ inl after ↦ absurd (p.first h q.after after q.starts) | inr same ↦ omega arith ]
]

-- where none starts, there is none
no_starts : (all : List (List ℕ)) (from : ℕ) → NoneStartsFrom all from → AreStartsFrom all from []
no_starts all from none = record {
  ascending = λ i j d before below. absurd (omega (arith, below));
  exact = λ g. (λ there. absurd (omega (arith, there.1)), λ starts. absurd (none g starts.1 starts.0));
}

-- the first start, and all behind it
start_first : (all : List (List ℕ)) (from g : ℕ) (behind : List ℕ) → IsNextStart all from g → AreStartsFrom all (g + 1) behind
    → AreStartsFrom all from (g ∷ behind)
start_first all from g behind next are = record {
  ascending = AllPairs-cons (λ a b. a < b) g behind (λ k d below. omega (arith, ((are.exact (get_or behind k d)).0 (Contains-get_or behind k d below)).1)) are.ascending;
  exact = λ h. (
    (λ there. elim (Contains-append_cases (g ∷ []) behind h there) [
      | inl here ↦ elim (Contains-push_cases [] g h here) [
        | inl nowhere ↦ absurd (omega (arith, nowhere.1))
        | inr is ↦ subst (λ n. LevelStartsAt all n × (from ≤ n)) is (next.starts, next.after)
      ]
      | inr later ↦ let starts = (are.exact h).0 later in (starts.0, omega (arith, starts.1, next.after))
    ]),
    (λ starts. elim (cases_lt g h) [
      | inl after ↦ Contains-append_right (g ∷ []) behind h ((are.exact h).1 (starts.0, omega arith))
      | inr upto ↦ elim (cases_eq g h) [
        | inl same ↦ subst (Contains (g ∷ behind)) same (Contains-append_left (g ∷ []) behind g (Contains-push [] g))
        | inr other ↦ absurd (next.first h starts.1 (omega arith) starts.0)
      ]
    ]),
  );
}

-- what is given until none is left is all starts, ascending
pub all_given : (all : List (List ℕ)) (from : ℕ) (starts : List ℕ)
    → Drains GivesNextStart (record { names = all; from = from }) starts → AreStartsFrom all from starts
all_given all from [] (end, (left, same, none)) =
    no_starts all from (subst (λ (at : StartsLeft). NoneStartsFrom at.names at.from) (sym same) none.0)
all_given all from (g ∷ starts) (end, (left, (behind, gives, more), none)) =
    start_first all from g starts gives.0
    (all_given all (g + 1) starts (subst (λ at. Drains GivesNextStart at starts) gives.1 (end, (left, more, none))))
