-- The holders of labels' names.
use Rattle.std.proofs.Common.{◌≡◌, ◌≢◌, ◌⊎◌, inl, inr, ℕ, ◌+◌, ◌≤◌, Bool, true, false, eqb, not, IsTrue, List, [], ◌∷◌, length, take, get_or, Option, Some, None, IsSome, refl, sym, ap, ◌∙◌, subst, arith}
use Rattle.std.specs.Prelude.{nat_eq}
use Rattle.std.specs.BTreeMap.{BTreeMap, Updates}
use Rattle.std.specs.Cmp.Lexicographic.{pointwise, slice_cmp}
use Rattle.std.specs.List.{slice_get}
use Rattle.std.specs.Ordering.{is_eq, nat_cmp}
use Rattle.std.specs.Str.{bytes_eq}
use Rattle.std.proofs.lemmas.Bool.{cases_eq, cases_lt, false≢true}
use Rattle.std.proofs.lemmas.Bool.Decides.{Decides-eqb, nat_tests}
use Rattle.std.proofs.lemmas.List.{length-append, length-map, take_all}
use Rattle.std.proofs.lemmas.Map.Text.{is_eq-slice_cmp}
use Rattle.std.proofs.lemmas.Option.{slice_get_within, slice_get-get_or, none-some}
use Rattle.std.proofs.lemmas.Slice.Eq.{bytes_eq-Decides, slice_eq-Decides}
use Rattle.le_rec.specs.Name.{name_of, padded, query_of}
use Rattle.le_rec.proofs.NameLemmas.{name_of-name_of}
use Rattle.wad_dir.specs.Entries.{joined, listed_name, names}
use Rattle.wad_dir.specs.Wad.{Wad}
use Rattle.wad_dir.specs.Winner.{Wins}
use Rattle.level_starts.specs.Holders.{AreHolders, AreLabelHolders, AreOfLabels, HasLabelsBelow, HasNames, IsHolder, PutsHolder, holder_at}
use Rattle.level_starts.specs.Starts.{LevelStartsAt}

-- two names of eight bytes are the same or not
key_cases : (a b : List ℕ) → (a ≡ b) ⊎ (a ≢ b)
key_cases a b = go (bytes_eq a b) refl
  where
    go : (r : Bool) → bytes_eq a b ≡ r → (a ≡ b) ⊎ (a ≢ b)
    go true is = inl ((bytes_eq-Decides a b).0 is)
    go false is = inr (λ same. false≢true (sym is ∙ (bytes_eq-Decides a b).1 same))

pub key_differs : (a b : List ℕ) → a ≢ b → is_eq (slice_cmp nat_cmp a b) ≡ false
key_differs a b differs = is_eq-slice_cmp a b ∙ go (bytes_eq a b) refl
  where
    go : (r : Bool) → bytes_eq a b ≡ r → bytes_eq a b ≡ false
    go true is = absurd (differs ((bytes_eq-Decides a b).0 is))
    go false is = is

module _ {before after : BTreeMap (List ℕ) ℕ} {bytes : List ℕ} {holder : ℕ} (puts : PutsHolder before after bytes holder) where
  pub AreHolders-put : (all : List (List ℕ)) (n : ℕ) → IsHolder all n bytes holder
      → ((other : List ℕ) (at : ℕ) → other ≢ bytes → holder_at before other ≡ Some at → IsHolder all n other at) → AreHolders all n after
  AreHolders-put all n here others other at is = elim (key_cases other bytes) [
    | inl same ↦ (let one : at ≡ holder = cc in rw (same, one) here)
    | inr differs ↦ others other at differs (sym (puts.others other differs) ∙ is)
  ]

  pub HasNames-put : HasNames before after
  HasNames-put other some = elim (key_cases other bytes) [
    | inl same ↦ rw (same, puts.put) refl
    | inr differs ↦ rw (puts.others other differs) some
  ]

  pub AreOfLabels-put : (all : List (List ℕ)) → LevelStartsAt all holder → AreOfLabels all before → AreOfLabels all after
  AreOfLabels-put all starts are other at is = elim (key_cases other bytes) [
    | inl same ↦ (let one : at ≡ holder = cc in rw one starts)
    | inr differs ↦ are other at (sym (puts.others other differs) ∙ is)
  ]

pub puts_from_updates : {before after : BTreeMap (List ℕ) ℕ} {bytes : List ℕ} {holder : ℕ} → Updates (slice_cmp nat_cmp) before after bytes (Some holder) → PutsHolder before after bytes holder
puts_from_updates {bytes = bytes} u = record { put = u.1; others = λ other differs. u.2 other (key_differs bytes other (λ same. differs (sym same))) }

-- the holders of names below an entry, where its own name is not among them, are those up to it
module _ (all : List (List ℕ)) (g : ℕ) (bytes : List ℕ) (at : slice_get all g ≡ Some (name_of bytes)) (stored : bytes ≡ padded (name_of bytes)) where
  pub IsHolder-next : (other : List ℕ) (holder : ℕ) → other ≢ bytes → IsHolder all g other holder → IsHolder all (g + 1) other holder
  IsHolder-next other holder differs is = record {
    stored = is.stored;
    named = is.named;
    last = λ h above below same. elim (cases_eq h g) [
      | inl here ↦ differs (
          let both : Some (name_of bytes) ≡ Some (name_of other) = sym at ∙ subst (λ k. slice_get all k ≡ Some (name_of other)) here same in
          let one : name_of bytes ≡ name_of other = cc in
          is.stored ∙ ap padded (sym one) ∙ sym stored)
      | inr other_holder ↦ is.last h above (omega (arith, other_holder)) same
    ];
  }

  pub IsHolder-here : IsHolder all (g + 1) bytes g
  IsHolder-here = record { stored = stored; named = at; last = λ h above below. absurd (omega arith) }

  pub IsHolder-first : IsHolder all 0 bytes g
  IsHolder-first = record { stored = stored; named = at; last = λ h above below. absurd (omega arith) }

  -- the holder of the entry's name is put, and the entry is the last
  pub AreHolders-move : {before after : BTreeMap (List ℕ) ℕ} → PutsHolder before after bytes g → AreHolders all g before → AreHolders all (g + 1) after
  AreHolders-move puts are = AreHolders-put puts all (g + 1) IsHolder-here (λ other holder differs is. IsHolder-next other holder differs (are other holder is))

  -- its name isn't among the holders
  pub AreHolders-stay : (before : BTreeMap (List ℕ) ℕ) → holder_at before bytes ≡ None → AreHolders all g before → AreHolders all (g + 1) before
  AreHolders-stay before none are other holder is = IsHolder-next other holder (λ same. none-some holder (sym none ∙ (rw same at is))) (are other holder is)

  pub AreHolders-first : {before after : BTreeMap (List ℕ) ℕ} → PutsHolder before after bytes g → AreHolders all 0 before → AreHolders all 0 after
  AreHolders-first puts are = AreHolders-put puts all 0 IsHolder-first (λ other holder differs is. are other holder is)

  -- its label is one more
  pub HasLabels-more : {before after : BTreeMap (List ℕ) ℕ} → PutsHolder before after bytes g → HasLabelsBelow all g before → HasLabelsBelow all (g + 1) after
  HasLabels-more {before} {after} puts has h name below starts named = elim (cases_eq h g) [
    | inl here ↦ (
        let both : Some (name_of bytes) ≡ Some name = sym at ∙ (rw (← here) named) in
        let one : name_of bytes ≡ name = cc in
        let is : padded name ≡ bytes = ap padded (sym one) ∙ sym stored in
        rw (is, puts.put) refl)
    | inr other ↦ HasNames-put puts (padded name) (has h name (omega (arith, below, other)) starts named)
  ]

pub HasLabels-skip : (all : List (List ℕ)) (g : ℕ) (holders : BTreeMap (List ℕ) ℕ) → ((name : List ℕ) → LevelStartsAt all g → slice_get all g ≢ Some name)
    → HasLabelsBelow all g holders → HasLabelsBelow all (g + 1) holders
HasLabels-skip all g holders none has h name below starts named = elim (cases_eq h g) [
  | inl here ↦ absurd (none name (subst (LevelStartsAt all) here starts) (rw (← here) named))
  | inr other ↦ has h name (omega (arith, below, other)) starts named
]

pub AreHolders-less : (all : List (List ℕ)) (n m : ℕ) (holders : BTreeMap (List ℕ) ℕ) → m ≤ n → AreHolders all n holders → AreHolders all m holders
AreHolders-less all n m holders upto are bytes holder is =
    let is_holder = are bytes holder is in
    record { stored = is_holder.stored; named = is_holder.named; last = λ h above below. is_holder.last h above (omega (arith, below)) }

-- nothing stands past the end alone
pub past_end : {X : Type 0} (xs : List X) (i : ℕ) → slice_get xs i ≡ None → length xs ≤ i
past_end [] i none = omega arith
past_end (x ∷ xs) i none = elim (cases_lt i (length (x ∷ xs))) [
  | inl within ↦ absurd (none-some (get_or (x ∷ xs) i x) (sym none ∙ slice_get-get_or (x ∷ xs) i x within))
  | inr past ↦ past
]

-- a name's eight bytes are looked up as the name
module _ (bytes : List ℕ) (eight : length bytes ≡ 8) (stored : bytes ≡ padded (name_of bytes)) where
  pub query_of-bytes : query_of bytes ≡ query_of (name_of bytes)
  query_of-bytes =
      let long = ap length stored ∙ length-append (name_of bytes) _ in
      let short : length (name_of bytes) ≤ 8 = omega (arith, long, eight) in
      let whole : take 8 bytes ≡ bytes = take_all 8 bytes (omega arith) in
      let name : take 8 (name_of bytes) ≡ name_of bytes = take_all 8 (name_of bytes) short in
      rw (whole, name, name_of-name_of bytes) refl

-- two arrays of bytes that a test finds the same, or not
pub same_bytes : (a b : List ℕ) → false ≡ not (pointwise eqb a b) → a ≡ b
same_bytes a b test = (slice_eq-Decides Decides-eqb a b (pointwise eqb a b) refl).0 (bool test)
  where
    bool : {r : Bool} → false ≡ not r → r ≡ true
    bool {r = true} e = refl
    bool {r = false} e = absurd (false≢true e)

pub other_bytes : (a b : List ℕ) → true ≡ not (pointwise eqb a b) → a ≢ b
other_bytes a b test same = absurd (bool test ((slice_eq-Decides Decides-eqb a b (pointwise eqb a b) refl).1 same))
  where
    bool : {r : Bool} → true ≡ not r → r ≡ true → ⊥
    bool {r = true} e is = false≢true (sym e)
    bool {r = false} e is = false≢true is

-- whether a label is hidden, by the last holder of its name
module _ (all : List (List ℕ)) (holders : BTreeMap (List ℕ) ℕ) (bytes : List ℕ) (g : ℕ) (are : AreHolders all (length all) holders) (at : slice_get all g ≡ Some (name_of bytes)) where
  pub wins_last : holder_at holders bytes ≡ Some g → Wins all (name_of bytes) g
  wins_last is =
      let last = are bytes g is in
      record { named = at; last = λ h above same. last.last h above (slice_get_within all h (name_of bytes) same) same }

  pub wins_not : (holder : ℕ) → holder_at holders bytes ≡ Some holder → holder ≢ g → ¬ Wins all (name_of bytes) g
  wins_not holder is differs wins = elim (cases_lt holder g) [
    | inl before ↦ (are bytes holder is).last g before (slice_get_within all g (name_of bytes) at) at
    | inr upto ↦ wins.last holder (omega (arith, differs)) (are bytes holder is).named
  ]

  pub wins_no_query : query_of (name_of bytes) ≢ name_of bytes → ¬ Wins all (query_of (name_of bytes)) g
  wins_no_query differs wins = differs (let both : Some (query_of (name_of bytes)) ≡ Some (name_of bytes) = sym wins.named ∙ at in cc)

  -- a name that isn't its query is hidden
  pub hidden_by_query : length bytes ≡ 8 → bytes ≡ padded (name_of bytes) → query_of bytes ≢ name_of bytes
      → (IsTrue true → Wins all (query_of (name_of bytes)) g → ⊥) × ((¬ Wins all (query_of (name_of bytes)) g) → IsTrue true)
  hidden_by_query eight stored differs = ((λ _ wins. wins_no_query (λ same. differs (query_of-bytes bytes eight stored ∙ same)) wins), λ _. refl)

  -- another is where its last holder isn't the label's
  pub hidden_by_holder : length bytes ≡ 8 → bytes ≡ padded (name_of bytes) → query_of bytes ≡ name_of bytes → (holder : ℕ) → holder_at holders bytes ≡ Some holder
      → (IsTrue (not (nat_eq holder g)) → Wins all (query_of (name_of bytes)) g → ⊥) × ((¬ Wins all (query_of (name_of bytes)) g) → IsTrue (not (nat_eq holder g)))
  hidden_by_holder eight stored same holder is =
      let query : query_of (name_of bytes) ≡ name_of bytes = sym (query_of-bytes bytes eight stored) ∙ same in
      elim (cases_eq holder g) as (λ _. (IsTrue (not (nat_eq holder g)) → Wins all (query_of (name_of bytes)) g → ⊥) × ((¬ Wins all (query_of (name_of bytes)) g) → IsTrue (not (nat_eq holder g)))) [
        | inl here ↦ (
          (λ differs wins. let test = differs in grind (arith, nat_tests)),
          λ none. absurd (none (rw query (wins_last (is ∙ ap Some here)))),
        )
        | inr other ↦ ((λ differs wins. wins_not holder is other (rw query at wins)), λ none. grind (arith, nat_tests))
      ]

-- after an entry the holders of names are the last up to it, whether its own name is among them or not
pub moved_or_stays : (all : List (List ℕ)) (g : ℕ) (bytes : List ℕ) → slice_get all g ≡ Some (name_of bytes) → bytes ≡ padded (name_of bytes) → (before after : BTreeMap (List ℕ) ℕ)
    → (IsSome (holder_at before bytes) → PutsHolder before after bytes g) → (holder_at before bytes ≡ None → after ≡ before) → AreHolders all g before
    → AreHolders all (g + 1) after × HasNames before after
moved_or_stays all g bytes at stored before after moved absent are = go (holder_at before bytes) refl
  where
    go : (o : Option ℕ) → holder_at before bytes ≡ o → AreHolders all (g + 1) after × HasNames before after
    go (Some holder) is = let puts = moved (rw is refl) in (AreHolders-move all g bytes at stored puts are, HasNames-put puts)
    go None is = subst (λ (m : BTreeMap (List ℕ) ℕ). AreHolders all (g + 1) m × HasNames before m) (sym (absent is))
        (AreHolders-stay all g bytes at stored before is are, λ other some. some)

-- the holders of labels' names, where each was moved to the last entry that has it
pub labels_moved : (files : List Wad) (before after : BTreeMap (List ℕ) ℕ) → HasLabelsBelow (names files) (length (joined files)) before
    → AreHolders (names files) (length (joined files)) after → HasNames before after → AreLabelHolders (names files) after
labels_moved files before after has are kept =
    let long : length (names files) ≡ length (joined files) = length-map (joined files) listed_name in
    record {
      last = subst (λ (n : ℕ). AreHolders (names files) n after) (sym long) are;
      labels = λ g name below starts named. kept (padded name) (has g name (omega (arith, below, long)) starts named);
    }
