-- Where a list begins and where it ends.
use Rattle.std.proofs.Common.{◌≡◌, ◌≢◌, ℕ, zero, suc, ◌+◌, ◌-◌, ◌<◌, ◌≤◌, ◌⊎◌, inl, inr, ℤ, pos, ◌↔◌, List, [], ◌∷◌, ◌++◌, length, take, drop, get_or, Some, sym, ap, ◌∙◌, refl, arith}
use Rattle.std.specs.Prelude.{Contains}
use Rattle.std.specs.List.{slice_get}
use Rattle.std.specs.Bool.{Decides}
use Rattle.std.specs.Ordering.{int_eq}
use Rattle.std.proofs.lemmas.Bool.{cases_lt, cases_Bool, false≢true}
use Rattle.std.proofs.lemmas.Bool.Decides.{Decides-int_eq}
use Rattle.std.proofs.lemmas.List.{take-append-drop, drop-drop, drop_more, get_or-take, get_or-drop, length-take, length-drop, length-append, get_or_at}
use Rattle.std.proofs.lemmas.Option.{slice_get-get_or, slice_get_within, get_or_from_slice_get, same_Some}
use Rattle.map_tables.specs.Words.{Words, IsListAt, ListsBeginBelow, IsBlockList, HasOffset, IsOffsetOutside, HasNoEnd}

module _ (words : Words) where
  -- no word from a place on, and before another, ends a list
  abbrev pub HasNoEndWithin : ℕ → ℕ → Type 0
  HasNoEndWithin from to = (k : ℕ) → from ≤ k → k < to → slice_get words.numbers k ≢ Some words.end

  -- the list from a place up to the first end word
  pub list_to_end : (place i : ℕ) → place ≤ i → slice_get words.numbers i ≡ Some words.end
      → HasNoEndWithin place i
      → IsListAt words place (take (i - place) (drop place words.numbers))
  list_to_end place i le there none =
      let within : i < length words.numbers = slice_get_within words.numbers i words.end there in
      let reach : place + (i - place) ≡ i = omega arith in
      let list = take (i - place) (drop place words.numbers) in
      let rest : drop i words.numbers ≡ words.end ∷ drop (i + 1) words.numbers =
      drop_more words.numbers i words.end within
      ∙ ap (λ w. w ∷ drop (i + 1) words.numbers)
      (get_or_from_slice_get words.numbers i words.end words.end there) in
      record {
        after = drop (i + 1) words.numbers;
        stands = sym (take-append-drop (i - place) (drop place words.numbers))
            ∙ ap (λ back. list ++ back)
            (drop-drop (i - place) place words.numbers
            ∙ ap (λ n. drop n words.numbers) reach ∙ rest);
        endless = λ (k, below, is).
            let short : k < i - place =
            omega (arith, below, length-take (i - place) (drop place words.numbers)) in
            none (place + k) (omega arith) (omega arith)
            (slice_get-get_or words.numbers (place + k) words.end (omega arith)
            ∙ ap Some (sym (get_or-take (i - place) (drop place words.numbers) k words.end short
            ∙ get_or-drop place words.numbers k words.end) ∙ is));
      }

  -- where a list ends there is an end word
  pub end_of_list : (place : ℕ) (list : List ℤ) → IsListAt words place list
      → slice_get words.numbers (place + length list) ≡ Some words.end
  end_of_list place list is =
      let long : length (drop place words.numbers) ≡ length list + suc (length is.after) =
      ap length is.stands ∙ length-append list (words.end ∷ is.after) in
      slice_get-get_or words.numbers (place + length list) words.end
      (omega (arith, long, length-drop place words.numbers))
      ∙ ap Some (sym (get_or-drop place words.numbers (length list) words.end)
      ∙ ap (λ ws. get_or ws (length list) words.end) is.stands
      ∙ get_or_at list words.end is.after words.end (length list) refl)

  -- with no end word from a place on there is no list
  pub no_list_at : (place : ℕ) → ((k : ℕ) → place ≤ k → slice_get words.numbers k ≢ Some words.end)
      → (list : List ℤ) → ¬ IsListAt words place list
  no_list_at place none list is =
      none (place + length list) (omega arith) (end_of_list place list is)

  -- the first end word from i on, of which one is at last
  first_end : (fuel place i last : ℕ) → i + fuel ≡ last → place ≤ i
      → slice_get words.numbers last ≡ Some words.end → HasNoEndWithin place i
      → (list : List ℤ) × IsListAt words place list
  first_end zero place i last reach le there none =
      let same : last ≡ i = omega (arith, reach) in
      (take (i - place) (drop place words.numbers), list_to_end place i le (rw same at there) none)
  first_end (suc fuel) place i last reach le there none =
      let e : Decides (int_eq (get_or words.numbers i words.end) words.end)
      (get_or words.numbers i words.end ≡ words.end) =
      Decides-int_eq (get_or words.numbers i words.end) words.end in
      let within : i < length words.numbers =
      omega (arith, slice_get_within words.numbers last words.end there) in
      let read : slice_get words.numbers i ≡ Some (get_or words.numbers i words.end) =
      slice_get-get_or words.numbers i words.end within in
      elim (cases_Bool (int_eq (get_or words.numbers i words.end) words.end)) [
        | inl here ↦ (
          take (i - place) (drop place words.numbers),
          list_to_end place i le (read ∙ ap Some (e.0 here)) none,
        )
        | inr not_here ↦
            first_end fuel place (i + 1) last (omega (arith, reach)) (omega (arith, le)) there
            (λ j from to is. elim (cases_lt j i) [
              | inl below ↦ none j from below is
              | inr same ↦
                  let at : j ≡ i =
                  omega (
                    arith,
                    to,
                    same,
                  ) in false≢true (sym not_here ∙ e.1 (same_Some _ _ (sym read ∙ rw at at is)))
            ])
      ]

  -- a list begins at each place up to the last end word, and at no other
  pub lists_begin_below : (last : ℕ) → slice_get words.numbers last ≡ Some words.end
      → ((k : ℕ) → last < k → slice_get words.numbers k ≢ Some words.end)
      → (place : ℕ) → (place < last + 1) ↔ ((list : List ℤ) × IsListAt words place list)
  lists_begin_below last there none place = (
    (λ below.
        first_end (last - place) place place last (omega arith) (omega arith) there
        (λ k from to. absurd (omega arith))),
    (λ (list, is). elim (cases_lt last (place + length list)) [
      | inl past ↦ absurd (none (place + length list) past (end_of_list place list is))
      | inr within ↦ omega arith
    ]),
  )

  -- with no end word a list begins nowhere
  pub lists_begin_nowhere : ((k : ℕ) → slice_get words.numbers k ≢ Some words.end)
      → (place : ℕ) → (place < 0) ↔ ((list : List ℤ) × IsListAt words place list)
  lists_begin_nowhere none place = (
    (λ below. absurd (omega (arith, below))),
    (λ (list, is). absurd (no_list_at place (λ k from. none k) list is)),
  )

-- two lists that end at the first of two equal words
same_to_end : (end : ℤ) (a b c d : List ℤ) → a ++ end ∷ c ≡ b ++ end ∷ d → ¬ Contains a end
    → ¬ Contains b end → a ≡ b
same_to_end end [] [] c d same p q = refl
same_to_end end [] (y ∷ b) c d same p q =
    let first : y ≡ end = cc in absurd (q (0, omega arith, first))
same_to_end end (x ∷ a) [] c d same p q =
    let first : x ≡ end = cc in absurd (p (0, omega arith, first))
same_to_end end (x ∷ a) (y ∷ b) c d same p q =
    let first : x ≡ y = cc in
    let rest : a ++ end ∷ c ≡ b ++ end ∷ d = cc in
    let tail : a ≡ b =
    same_to_end end a b c d rest (λ (k, below, is). p (suc k, omega (arith, below), is))
    (λ (k, below, is). q (suc k, omega (arith, below), is)) in
    cc

-- a block has one list
pub one_block_list : (words : Words) (n : ℕ) (a b : List ℤ) → IsBlockList words n a
    → IsBlockList words n b → a ≡ b
one_block_list words n a b p q =
    let here : pos p.place ≡ pos q.place = same_Some _ _ (sym p.offset ∙ q.offset) in
    let place : p.place ≡ q.place = cc in
    same_to_end words.end a b p.list_at.after q.list_at.after
    (sym p.list_at.stands ∙ ap (λ n. drop n words.numbers) place ∙ q.list_at.stands)
    p.list_at.endless q.list_at.endless

-- a block whose offset is a word has no list exactly where no list begins at the offset
pub offset_past_reach : (words : Words) (reach n place : ℕ) → ListsBeginBelow words reach
    → HasOffset words n place → place < length words.numbers
    → (reach ≤ place) ↔ (IsOffsetOutside words n ⊎ HasNoEnd words n)
offset_past_reach words reach n place lists offset inside = (
  (λ past. inr (record {
    place = place;
    offset = offset;
    inside = inside;
    no_list = λ list is. let below = (lists place).1 (list, is) in omega (arith, below);
  })),
  (λ fault. elim fault [
    | inl outside ↦ absurd (omega (arith, outside place offset))
    | inr none ↦
        let here : pos place ≡ pos none.place = same_Some _ _ (sym offset ∙ none.offset) in
        let same : place ≡ none.place = cc in
        elim (cases_lt place reach) [
          | inl below ↦
              let list : (list : List ℤ) × IsListAt words none.place list =
              (lists none.place).0 (omega (arith, same, below)) in
              absurd (none.no_list list.0 list.1)
          | inr past ↦ past
        ]
  ]),
)
