-- The entry that a name wins, in one file and in several.
use Rattle.std.proofs.Common.{◌≡◌, ◌≢◌, inl, inr, ℕ, ◌+◌, ◌-◌, ◌<◌, ◌≤◌, List, [], ◌∷◌, length, take, get_or, Option, Some, None, refl, sym, ap, ◌∙◌, arith, subst}
use Rattle.std.specs.List.{slice_get}
use Rattle.std.specs.Option.{option_map}
use Rattle.std.proofs.lemmas.Bool.{cases_lt}
use Rattle.std.proofs.lemmas.Option.{slice_get-map, slice_get_past, slice_get_within, slice_get-get_or, none-some}
use Rattle.std.proofs.lemmas.List.{length-map}
use Rattle.le_rec.specs.Name.{name_of}
use Rattle.le_rec.specs.declared.records.Entry.{Entry}
use Rattle.wad_dir.specs.Wad.{Wad}
use Rattle.wad_dir.specs.Entries.{Listed, joined, names, names_in, listed_name}
use Rattle.wad_dir.specs.Winner.{Wins}
use Rattle.wad_dir.proofs.JoinedLemmas.{listed_at, length-joined_to}

-- no entry from a number on has the name
abbrev pub NoneFrom : List (List ℕ) → List ℕ → ℕ → Type 0
NoneFrom all name n = (h : ℕ) → n ≤ h → slice_get all h ≢ Some name

module _ (all : List (List ℕ)) (name : List ℕ) (i n : ℕ) (next : n ≡ i + 1)
    (later : NoneFrom all name n) where
  pub wins_here : slice_get all i ≡ Some name → Wins all name i
  wins_here here = record { named = here; last = λ h after. later h (omega arith) }

  pub none_here : slice_get all i ≢ Some name → NoneFrom all name i
  none_here other = λ h from same. elim (cases_lt i h) [
    | inl after ↦ later h (omega arith) same
    | inr upto ↦
        other
        (let is : h ≡ i = omega arith in subst (λ (k : ℕ). slice_get all k ≡ Some name) is same)
  ]

-- the name of a file's entry
pub named_at : (file : Wad) (i : ℕ) (entry : Entry) → slice_get file.entries i ≡ Some entry
    → slice_get (names_in file) i ≡ Some (name_of entry.name)
named_at file i entry at =
    slice_get-map (λ (e : Entry). name_of e.name) file.entries i
    ∙ ap (option_map (λ (e : Entry). name_of e.name)) at

pub same_name : (file : Wad) (i : ℕ) (entry : Entry) (name : List ℕ)
    → slice_get file.entries i ≡ Some entry → slice_get (names_in file) i ≡ Some name
    → name_of entry.name ≡ name
same_name file i entry name at has =
    let both : Some (name_of entry.name) ≡ Some name = sym (named_at file i entry at) ∙ has in cc

pub within_some : {X : Type 0} (xs : List X) (i : ℕ) (o : Option X) → i < length xs
    → o ≡ slice_get xs i → o ≡ None → ⊥
within_some [] i o within is none = omega arith
within_some (x ∷ xs) i o within is none =
    none-some (get_or (x ∷ xs) i x) (sym none ∙ is ∙ slice_get-get_or (x ∷ xs) i x within)

pub Wins-within : (file : Wad) (name : List ℕ) (j : ℕ) → Wins (names_in file) name j
    → j < length file.entries
Wins-within file name j w =
    omega (
      arith,
      slice_get_within (names_in file) j name w.named,
      length-map file.entries (λ (e : Entry). name_of e.name),
    )

listed_name-in : (n : ℕ) (file : Wad) (o : Option Entry)
    → option_map listed_name (option_map (λ (e : Entry). let l : Listed = record {
      file = n;
      bytes = file.bytes;
      entry = e;
    } in l) o)
    ≡ option_map (λ (e : Entry). name_of e.name) o
listed_name-in n file (Some e) = refl
listed_name-in n file None = refl

-- in several files
module _ (files : List Wad) (file : Wad) (i : ℕ) (within : i < length files)
    (at : file ≡ get_or files i file) (name : List ℕ) where
  -- the name of an entry of the file, by its number in the list
  names_at : (j : ℕ) → j < length file.entries
      → slice_get (names files) (length (joined (take i files)) + j) ≡ slice_get (names_in file) j
  names_at j below =
      slice_get-map listed_name (joined files) (length (joined (take i files)) + j)
      ∙ ap (option_map listed_name) (listed_at files file i within at j below
      ∙ slice_get-map (λ (e : Entry). let l : Listed = record {
        file = i + 1;
        bytes = file.bytes;
        entry = e;
      } in l) file.entries j)
      ∙ listed_name-in (i + 1) file (slice_get file.entries j)
      ∙ sym (slice_get-map (λ (e : Entry). name_of e.name) file.entries j)

  module _ (first next n : ℕ) (before : first ≡ length (joined (take i files)))
      (after : next ≡ length (joined (take n files))) (counted : n ≡ i + 1)
      (later : NoneFrom (names files) name next) where
    sums : next ≡ first + length file.entries
    sums = omega (arith, length-joined_to files file i within at n counted)

    pub wins_in_file : (j : ℕ) → Wins (names_in file) name j → Wins (names files) name (first + j)
    wins_in_file j w =
        let below : j < length file.entries = Wins-within file name j w in
        record {
          named = ap (λ n. slice_get (names files) (n + j)) before ∙ names_at j below ∙ w.named;
          last = λ h above same. elim (cases_lt h next) [
            | inl inside ↦
                (let place : h ≡ length (joined (take i files)) + (h - first) = omega arith in
                let in_file : h - first < length file.entries = omega (arith, sums) in
                w.last (h - first) (omega arith) (sym (names_at (h - first) in_file)
                ∙ ap (slice_get (names files)) (sym place) ∙ same))
            | inr past ↦ later h past same
          ];
        }

    pub none_in_file : ((j : ℕ) → slice_get (names_in file) j ≢ Some name)
        → NoneFrom (names files) name first
    none_in_file none = λ h from same. elim (cases_lt h next) [
      | inl inside ↦ (let place : h ≡ length (joined (take i files)) + (h - first) = omega arith in
          let in_file : h - first < length file.entries = omega (arith, sums) in
          none (h - first) (sym (names_at (h - first) in_file)
          ∙ ap (slice_get (names files)) (sym place) ∙ same))
      | inr past ↦ later h past same
    ]

-- past the end there is no name
pub none_past : (files : List Wad) (name : List ℕ) (n : ℕ) → length (joined files) ≤ n
    → NoneFrom (names files) name n
none_past files name n past = λ h from same.
    none-some name
    (sym (slice_get_past (names files) h (omega (arith, length-map (joined files) listed_name)))
    ∙ same)

-- a name has one winner
pub Wins-one : (all : List (List ℕ)) (name : List ℕ) (g h : ℕ) → Wins all name g → Wins all name h
    → g ≡ h
Wins-one all name g h w v = elim (cases_lt g h) [
  | inl before ↦ absurd (w.last h before v.named)
  | inr upto ↦
      elim (cases_lt h g) [ inl after ↦ absurd (v.last g after w.named) | inr same ↦ omega arith ]
]
