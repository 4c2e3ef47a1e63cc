-- The number that the released game gives for a name is that of the winner.
use Rattle.std.proofs.Common.{◌≡◌, ◌≢◌, ◌↔◌, ◌⊎◌, inl, inr, ℕ, zero, suc, ◌-◌, ◌<◌, ◌≤◌, ℤ, pos, negsuc, ◌==◌, Bool, true, false, List, [], ◌∷◌, ◌++◌, length, take, drop, get_or, map, replicate, Some, w32, refl, sym, ap, ◌∙◌, subst, arith}
use Rattle.std.proofs.Common.{eqb-true, eq-eqb}
use Rattle.std.proofs.lemmas.Bool.Decides.{nat_tests}
use Rattle.std.proofs.lemmas.List.{take_all, length-take, length-drop, length-append, length-replicate, length-map, take-append-drop, get_or-map}
use Rattle.std.proofs.lemmas.List.Elements.{All-get_or}
use Rattle.std.proofs.lemmas.Nat.{le_bytes_4}
use Rattle.std.proofs.lemmas.Option.{slice_get-map, slice_get_past, slice_get-get_or, none-some}
use Rattle.std.specs.Char.{to_ascii_uppercase}
use Rattle.std.specs.Int.{to_le_bytes}
use Rattle.std.specs.List.{All, slice_get}
use Rattle.std.specs.Option.{option_map}
use Rattle.std.specs.Prelude.{if◌then◌else◌, ◌&&◌}
use Rattle.le_rec.specs.Bytes.{AreBytes}
use Rattle.le_rec.specs.Name.{name_of, padded, query_of}
use Rattle.le_rec.proofs.BytesLemmas.{AreBytes-cons, AreBytes-nil, AreBytes-tail, AreBytes-append, AreBytes-take, AreBytes-drop}
use Rattle.le_rec.proofs.NameLemmas.{name_of-padded, name_of-uppercase-padded, padded-uppercase-padded}
use Rattle.wad_dir.specs.Entries.{Listed, listed_name, joined}
use Rattle.released.specs.Laws.{IsRawName, ReleasedIsWinner, ReleasedIsNone, NamesStandRaw}
use Rattle.released.specs.CheckName.{copied, asked_name, word_at, has_words, released_search, released_number}
use Rattle.wad_dir.specs.Winner.{Wins}
use Rattle.wad_dir.proofs.WinnerLemmas.{NoneFrom, wins_here, none_here, Wins-one}

-- ---- eight bytes as two words

pub record IsEight (bytes : List ℕ) : Type 0 where
  pub long : length bytes ≡ 8
  pub are : AreBytes bytes

word_bytes : (bytes : List ℕ) (k : ℕ) → IsEight bytes → k ≤ 4
    → to_le_bytes w32 (word_at bytes k) ≡ take 4 (drop k bytes)
word_bytes bytes k eight h =
    le_bytes_4 (take 4 (drop k bytes)) (word_at bytes k)
    (omega (arith, length-take 4 (drop k bytes), length-drop k bytes, eight.long))
    (AreBytes-take 4 (drop k bytes) (AreBytes-drop k bytes eight.are)).each
    refl

both_true : (a b : Bool) → (a && b) ≡ true → (a ≡ true) × (b ≡ true)
both_true true b e = (refl, e)
both_true false b e = cc

halves : (bytes : List ℕ) → IsEight bytes
    → bytes ≡ take 4 (drop 0 bytes) ++ take 4 (drop 4 bytes)
halves bytes eight =
    sym (take-append-drop 4 bytes)
    ∙ ap (λ rest. take 4 bytes ++ rest)
    (sym (take_all 4 (drop 4 bytes) (omega (arith, length-drop 4 bytes, eight.long))))

same_by_words : (a b : List ℕ) → IsEight a → IsEight b → has_words a b ≡ true → a ≡ b
same_by_words a b f g e =
    let both = both_true (word_at a 0 == word_at b 0) (word_at a 4 == word_at b 4) e in
    let first : take 4 (drop 0 a) ≡ take 4 (drop 0 b) =
    sym (word_bytes a 0 f (omega arith))
    ∙ ap (to_le_bytes w32) (eqb-true (word_at a 0) (word_at b 0) both.0)
    ∙ word_bytes b 0 g (omega arith) in
    let second : take 4 (drop 4 a) ≡ take 4 (drop 4 b) =
    sym (word_bytes a 4 f (omega arith))
    ∙ ap (to_le_bytes w32) (eqb-true (word_at a 4) (word_at b 4) both.1)
    ∙ word_bytes b 4 g (omega arith) in
    halves a f ∙ (λ i. first i ++ second i) ∙ sym (halves b g)

words_of_same : (a b : List ℕ) → a ≡ b → has_words a b ≡ true
words_of_same a b e =
    ap (has_words a) (sym e)
    ∙ (λ i. eq-eqb (word_at a 0) (word_at a 0) refl i && eq-eqb (word_at a 4) (word_at a 4) refl i)

-- ---- names in eight bytes

length-name_of : (bytes : List ℕ) → length (name_of (take 8 bytes)) ≤ 8
length-name_of bytes = omega (arith, length-take {A = ℕ})

nuls : (n : ℕ) → AreBytes (replicate n 0)
nuls zero = AreBytes-nil
nuls (suc n) = AreBytes-cons 0 (replicate n 0) (omega arith) (nuls n)

copied_eight : (bytes : List ℕ) → AreBytes bytes → IsEight (copied bytes)
copied_eight bytes are =
    let name : List ℕ = name_of (take 8 bytes) in
    record {
      long = omega (
        arith,
        length-append name (replicate (8 - length name) 0),
        length-replicate {A = ℕ},
        length-name_of bytes,
      );
      are = AreBytes-append name (replicate (8 - length name) 0)
          (AreBytes-take _ (take 8 bytes) (AreBytes-take 8 bytes are))
          (nuls (8 - length name));
    }

uppercase_byte : (b : ℕ) → b < 256 → to_ascii_uppercase b < 256
uppercase_byte b h = grind (arith, nat_tests)

uppercase_bytes : (bytes : List ℕ) → AreBytes bytes → AreBytes (map to_ascii_uppercase bytes)
uppercase_bytes [] are = are
uppercase_bytes (b ∷ bytes) are =
    AreBytes-cons (to_ascii_uppercase b) (map to_ascii_uppercase bytes)
    (uppercase_byte b (are.each 0)) (uppercase_bytes bytes (AreBytes-tail b bytes are))

asked_eight : (bytes : List ℕ) → AreBytes bytes → IsEight (asked_name bytes)
asked_eight bytes are =
    let eight = copied_eight bytes are in
    record {
      long = length-map (copied bytes) to_ascii_uppercase ∙ eight.long;
      are = uppercase_bytes (copied bytes) eight.are;
    }

asked_is : (asked : List ℕ) → asked_name asked ≡ padded (query_of asked)
asked_is asked =
    padded-uppercase-padded (take 8 asked) ∙ ap padded (name_of-uppercase-padded (take 8 asked))

name_of-copied : (raw : List ℕ) → length raw ≡ 8 → name_of (copied raw) ≡ name_of raw
name_of-copied raw long =
    name_of-padded (take 8 raw) ∙ ap name_of (take_all 8 raw (omega arith))

-- the test by words is that of the name
named_by_words : (raw asked : List ℕ) → IsRawName raw → AreBytes asked
    → has_words (copied raw) (asked_name asked) ≡ true → name_of raw ≡ query_of asked
named_by_words raw asked is are e =
    sym (name_of-copied raw is.long)
    ∙ ap name_of (same_by_words (copied raw) (asked_name asked) (copied_eight raw is.are) (asked_eight asked are) e)
    ∙ name_of-uppercase-padded (take 8 asked)

words_by_name : (raw asked : List ℕ) → IsRawName raw → name_of raw ≡ query_of asked
    → has_words (copied raw) (asked_name asked) ≡ true
words_by_name raw asked is e =
    words_of_same (copied raw) (asked_name asked)
    (ap (λ bytes. padded (name_of bytes)) (take_all 8 raw (omega (arith, is.long)))
    ∙ ap padded e ∙ sym (asked_is asked))

-- ---- the loop

module _ (raw : List (List ℕ)) (asked : List ℕ) (names : All IsRawName raw)
    (are : AreBytes asked) where
  abbrev all : List (List ℕ)
  all = map name_of raw

  abbrev query : List ℕ
  query = query_of asked

  abbrev search_to : ℕ → ℤ
  search_to n = released_search (map copied raw) (asked_name asked) n

  name_at : (i : ℕ) → i < length raw → slice_get all i ≡ Some (name_of (get_or raw i []))
  name_at i h =
      slice_get-map name_of raw i ∙ ap (option_map name_of) (slice_get-get_or raw i [] h)

  -- the winner, or no entry has the name
  Outcome : ℤ → Type 0
  Outcome r =
      ((g : ℕ) × (r ≡ pos g) × Wins all query g) ⊎ ((r ≡ negsuc 0) × NoneFrom all query 0)

  step : (i : ℕ) → i < length raw → (b : Bool)
      → has_words (copied (get_or raw i [])) (asked_name asked) ≡ b
      → NoneFrom all query (suc i) → (NoneFrom all query i → Outcome (search_to i))
      → Outcome (if b then pos i else search_to i)
  unfolding Outcome
  step i h true e later below =
      let is = All-get_or IsRawName raw i [] h names in
      inl (
        i,
        refl,
        wins_here all query i (suc i) (omega arith) later
            (name_at i h ∙ ap Some (named_by_words (get_or raw i []) asked is are e)),
      )
  step i h false e later below =
      let is = All-get_or IsRawName raw i [] h names in
      below (none_here all query i (suc i) (omega arith) later (λ here.
      let named : name_of (get_or raw i []) ≡ query =
      let both : Some (name_of (get_or raw i [])) ≡ Some query = sym (name_at i h) ∙ here in cc in
      let yes = words_by_name (get_or raw i []) asked is named in cc))

  searched : (n : ℕ) → n ≤ length raw → NoneFrom all query n → Outcome (search_to n)
  unfolding Outcome
  searched zero h later = inr (refl, later)
  searched (suc i) h later =
      let inside : i < length raw = omega arith in
      subst (λ s. Outcome (if has_words s (asked_name asked) then pos i else search_to i))
      (sym (get_or-map copied raw i [] [] inside))
      (step i inside (has_words (copied (get_or raw i [])) (asked_name asked)) refl later
      (searched i (omega arith)))

  none_past_end : NoneFrom all query (length raw)
  none_past_end = λ h from same.
      none-some query
      (sym (slice_get_past all h (omega (arith, length-map raw name_of))) ∙ same)

  outcome : Outcome (released_number raw asked)
  outcome = searched (length raw) (omega arith) none_past_end

  to_winner : (r : ℤ) (g : ℕ) → Outcome r → (r ≡ pos g) ↔ Wins all query g
  unfolding Outcome
  to_winner r g (inl won) = (
    λ e.
        let same : won.0 ≡ g =
        let both : pos won.0 ≡ pos g = sym won.1 ∙ e in cc in
        subst (Wins all query) same won.2,
    λ w. won.1 ∙ ap pos (Wins-one all query won.0 g won.2 w),
  )
  to_winner r g (inr none) = (
    λ e. let both : negsuc 0 ≡ pos g = sym none.0 ∙ e in cc,
    λ w. absurd (none.1 g (omega arith) w.named),
  )

  to_none : (r : ℤ) → Outcome r → (r ≡ negsuc 0) ↔ ((g : ℕ) → slice_get all g ≢ Some query)
  unfolding Outcome
  to_none r (inl won) = (
    λ e. let both : pos won.0 ≡ negsuc 0 = sym won.1 ∙ e in cc,
    λ none. absurd (none won.0 won.2.named),
  )
  to_none r (inr none) = (λ e. λ g same. none.1 g (omega arith) same, λ _. none.0)

pub released_is_winner : ReleasedIsWinner
released_is_winner raw asked g names are =
    to_winner raw asked names are (released_number raw asked) g (outcome raw asked names are)

pub released_is_none : ReleasedIsNone
released_is_none raw asked names are =
    to_none raw asked names are (released_number raw asked) (outcome raw asked names are)

names_of_listed : (all : List Listed)
    → map listed_name all ≡ map name_of (map (λ (l : Listed). l.entry.name) all)
names_of_listed [] = refl
names_of_listed (l ∷ all) = ap (λ rest. name_of l.entry.name ∷ rest) (names_of_listed all)

pub names_stand_raw : NamesStandRaw
names_stand_raw files = names_of_listed (joined files)

-- a turn of the loop, as the code counts it
pub search_step : (raw : List (List ℕ)) (name : List ℕ) (n i : ℕ) → n ≡ suc i → i < length raw
    → (b : Bool) → has_words (copied (get_or raw i [])) name ≡ b
    → released_search (map copied raw) name n
    ≡ (if b then pos i else released_search (map copied raw) name i)
search_step raw name n i e h b test =
    ap (released_search (map copied raw) name) e
    ∙ ap (λ s. if has_words s name then pos i else released_search (map copied raw) name i)
    (get_or-map copied raw i [] [] h)
    ∙ ap (λ t. if t then pos i else released_search (map copied raw) name i) test
