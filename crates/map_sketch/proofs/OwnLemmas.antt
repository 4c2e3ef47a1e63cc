-- Which lumps a level has.
use Rattle.std.proofs.Common.{◌≡◌, ℕ, ◌+◌, ◌<◌, ◌≤◌, List, length, map, inl, inr, arith}
use Rattle.std.proofs.lemmas.Bool.{cases_lt}
use Rattle.std.proofs.lemmas.List.{length-map}
use Rattle.std.proofs.lemmas.Option.{slice_get_within}
use Rattle.level_starts.specs.Starts.{IsNamed}
use Rattle.wad_dir.specs.Entries.{joined, listed_name, names}
use Rattle.wad_dir.specs.Wad.{Wad}
use Rattle.map_sketch.specs.Own.{HasNone, IsOwn, IsOwnPlace}

-- the first places have lumps of the level, and none of them has the name
pub record ArePassed (names : List (List ℕ)) (g : ℕ) (name : List ℕ) (k : ℕ) : Type 0 where
  pub own : (j : ℕ) → 1 ≤ j → j < k → IsOwn names (g + j)
  pub first : (j : ℕ) → 1 ≤ j → j < k → ¬ IsNamed names (g + j) name

pub none_passed : (names : List (List ℕ)) (g : ℕ) (name : List ℕ) → ArePassed names g name 1
none_passed names g name = record {
  own = λ j from less. absurd (omega (arith, from, less));
  first = λ j from less. absurd (omega (arith, from, less));
}

-- one place more
pub passed_more : (names : List (List ℕ)) (g : ℕ) (name : List ℕ) (k : ℕ) → ArePassed names g name k → IsOwn names (g + k)
    → (¬ IsNamed names (g + k) name) → ArePassed names g name (k + 1)
passed_more names g name k passed own other = record {
  own = λ j from less. elim (cases_lt j k) [
    | inl below ↦ passed.own j from below
    | inr past ↦ let same : j ≡ k = omega (arith, past, less) in rw same own
  ];
  first = λ j from less. elim (cases_lt j k) [
    | inl below ↦ passed.first j from below
    | inr past ↦ let same : j ≡ k = omega (arith, past, less) in rw same other
  ];
}

-- it isn't there where the next place has another name, and none of the level's
pub none_behind : (names : List (List ℕ)) (g : ℕ) (name : List ℕ) (k : ℕ) → 1 ≤ k → ArePassed names g name k → (¬ IsOwn names (g + k))
    → (¬ IsNamed names (g + k) name) → HasNone names g name
none_behind names g name k least passed foreign other j found = elim (cases_lt j k) [
  | inl below ↦ passed.first j found.from below found.named
  | inr past ↦ elim (cases_lt k j) [
    | inl more ↦ foreign (found.own k least more)
    | inr less ↦ let same : j ≡ k = omega (arith, past, less) in other (rw (← same) found.named)
  ]
]

-- nor where the list of entries ends
pub none_past_end : (files : List Wad) (g : ℕ) (name : List ℕ) (k : ℕ) → ArePassed (names files) g name k → length (joined files) ≤ g + k
    → HasNone (names files) g name
none_past_end files g name k passed ends j found = elim (cases_lt j k) [
  | inl below ↦ passed.first j found.from below found.named
  | inr past ↦
      let within = slice_get_within (names files) (g + j) name found.named in
      let long : length (names files) ≡ length (joined files) = length-map (joined files) listed_name in
      absurd (omega (arith, within, long, ends, past))
]

-- nor behind eleven places
pub none_past_all : (names : List (List ℕ)) (g : ℕ) (name : List ℕ) → ArePassed names g name 12 → HasNone names g name
none_past_all names g name passed j found =
    let to = found.to in let less : j < 12 = omega (arith, to) in passed.first j found.from less found.named
