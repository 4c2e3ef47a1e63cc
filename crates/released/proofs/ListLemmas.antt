-- The list that the released game walks is the block's list.
use Rattle.std.proofs.Common.{◌≡◌, ℕ, zero, suc, ◌+◌, ◌*◌, ◌%◌, ◌<◌, ◌≤◌, ◌^◌, ℤ, pos, negsuc, Bool, true, false, cond, not, ◌||◌, List, [], ◌∷◌, ◌++◌, length, map, take, drop, slice_index_or, Option, Some, None, inl, inr, FitsSigned, to_z, w32, refl, sym, ap, ◌∙◌, subst, arith}
use Rattle.std.specs.Prelude.{Contains, All, nat_lt, position, if◌then◌else◌, option_and_then}
use Rattle.std.specs.Int.{w16, int_wrapping_add}
use Rattle.std.specs.List.{slice_get}
use Rattle.std.specs.Option.{option_map}
use Rattle.std.specs.Ordering.{int_eq}
use Rattle.std.proofs.lemmas.Bool.{cases_lt, cases_Bool, lt-ltb, le-ltb, false≢true}
use Rattle.std.proofs.lemmas.Bool.Decides.{Decides-int_eq}
use Rattle.std.proofs.lemmas.Int.{to_z_pos}
use Rattle.std.proofs.lemmas.Nat.{mul-le}
use Rattle.std.proofs.lemmas.List.{map-id}
use Rattle.std.proofs.lemmas.List.Elements.{All-map}
use Rattle.std.proofs.lemmas.Option.{same_Some, none-some}
use Rattle.le_rec.specs.Bytes.{AreBytes}
use Rattle.le_rec.specs.Record.{word}
use Rattle.le_rec.specs.Table.{piece, records_of}
use Rattle.le_rec.specs.declared.records.Word.{Word}
use Rattle.le_rec.proofs.NumberLemmas.{FitsSigned-signed16}
use Rattle.map_level.specs.Reading.{number_of}
use Rattle.map_level.specs.declared.reading.Reading.TheVariants.{Signed}
use Rattle.map_tables.specs.BlockMap.{count_of, head}
use Rattle.map_tables.specs.Words.{numbers_of}
use Rattle.released.specs.BlockLines.{is_outside, released_block_number, words_from, walked, released_block_list, released_list}
use Rattle.released.specs.Laws.{ReleasedListIsBlockList}
use Rattle.released.proofs.FileLemmas.{piece_bytes}

-- ---- the words up to the first -1

abbrev pub is_end : ℤ → Bool
is_end word = int_eq word (negsuc 0)

-- by the place of the first -1
one_on : (b : Bool) (w : ℤ) (words : List ℤ) (n m : ℕ)
    → (if b then Some []
    else option_map (λ list. w ∷ list) (option_map (λ k. take k words) (cond (nat_lt n m) (Some n) None)))
    ≡ option_map (λ k. take k (w ∷ words)) (cond (nat_lt (cond (not b) (1 + n) 0) (suc m)) (Some (cond (not b) (1 + n) 0)) None)
one_on true w words n m = rw (lt-ltb 0 (suc m) (omega arith)) refl
one_on false w words n m = elim (cases_lt n m) [
  | inl below ↦
      let next : suc n ≡ 1 + n = omega arith in
      rw (lt-ltb n m below, lt-ltb (1 + n) (suc m) (omega (arith, below)))
      (ap (λ k. Some (take k (w ∷ words))) next)
  | inr past ↦ rw (le-ltb n m past, le-ltb (1 + n) (suc m) (omega (arith, past))) refl
]

pub walked_is : (words : List ℤ)
    → walked words ≡ option_map (λ k. take k words) (position is_end words)
walked_is [] = refl
walked_is (w ∷ words) =
    ap (λ list. if is_end w then Some [] else option_map (λ list. w ∷ list) list) (walked_is words)
    ∙ one_on (is_end w) w words _ (length words)

-- an end word is not among the words of a list
not_first : (w : ℤ) (list : List ℤ) → (w ≡ negsuc 0 → is_end w ≡ true) → is_end w ≡ false
    → ¬ Contains list (negsuc 0) → ¬ Contains (w ∷ list) (negsuc 0)
not_first w list decides other endless (zero, below, is) = false≢true (sym other ∙ decides is)
not_first w list decides other endless (suc k, below, is) = endless (k, omega (arith, below), is)

is_no_end : (w : ℤ) (list : List ℤ) → ¬ Contains (w ∷ list) (negsuc 0) → is_end w ≡ false
is_no_end w list endless = elim (cases_Bool (is_end w)) [
  | inl here ↦
      absurd (endless (zero, omega arith, (Decides-int_eq w (negsuc 0)).0 here))
  | inr other ↦ other
]

-- what is walked ends at an end word
record IsWalk (words list : List ℤ) : Type 0 where
  after : List ℤ
  stands : words ≡ list ++ negsuc 0 ∷ after
  endless : ¬ Contains list (negsuc 0)

walk_on : (b : Bool) (w : ℤ) (words list : List ℤ) (rest : Option (List ℤ)) → is_end w ≡ b
    → ((l : List ℤ) → rest ≡ Some l → IsWalk words l)
    → (if b then Some [] else option_map (λ l. w ∷ l) rest) ≡ Some list → IsWalk (w ∷ words) list
walk_on true w words list rest here walks e =
    let none : [] ≡ list = same_Some [] list e in
    subst (IsWalk (w ∷ words)) none (record {
      after = words;
      stands = ap (λ z. z ∷ words) ((Decides-int_eq w (negsuc 0)).0 here);
      endless = λ (k, below, is). omega (arith, below);
    })
walk_on false w words list None other walks e = absurd (none-some list e)
walk_on false w words list (Some l) other walks e =
    let longer : w ∷ l ≡ list = same_Some (w ∷ l) list e in
    let walk = walks l refl in
    subst (IsWalk (w ∷ words)) longer (record {
      after = walk.after;
      stands = ap (λ ws. w ∷ ws) walk.stands;
      endless = not_first w l ((Decides-int_eq w (negsuc 0)).1) other walk.endless;
    })

is_walk : (words list : List ℤ) → walked words ≡ Some list → IsWalk words list
is_walk [] list e = absurd (none-some list e)
is_walk (w ∷ words) list e =
    walk_on (is_end w) w words list (walked words) refl (is_walk words) e

walks : (list after : List ℤ) → ¬ Contains list (negsuc 0)
    → walked (list ++ negsuc 0 ∷ after) ≡ Some list
walks [] after endless = refl
walks (w ∷ list) after endless =
    let other = is_no_end w list endless in
    let rest : ¬ Contains list (negsuc 0) =
    λ (k, below, is). endless (suc k, (omega (arith, below)), is) in
    ap (λ b. if b then Some [] else option_map (λ l. w ∷ l) (walked (list ++ negsuc 0 ∷ after))) other
    ∙ ap (option_map (λ l. w ∷ l)) (walks list after rest)

-- ---- the place of the list

fits_or : (words : List ℤ) (k : ℕ) → All (λ z. FitsSigned w16 z) words
    → FitsSigned w16 (slice_index_or words k (pos 0))
fits_or [] k all = record { sfits = omega arith }
fits_or (w ∷ words) zero all = all 0 (pos 0) (omega arith)
fits_or (w ∷ words) (suc k) all = fits_or words k (λ j d below. all (suc j) d (omega (arith, below)))

word_fits : (bytes : List ℕ) → AreBytes bytes → FitsSigned w16 (word bytes).number
word_fits bytes are = FitsSigned-signed16 _ _ (are.each 0) (are.each 1)

head_fits : (bytes : List ℕ) (k : ℕ) → AreBytes bytes → FitsSigned w16 (head bytes k)
head_fits bytes k are =
    fits_or (numbers_of bytes) k
    (All-map (λ z. FitsSigned w16 z) (λ (w : Word). w.number) (records_of 2 word bytes)
    (All-map (λ (w : Word). FitsSigned w16 w.number) (λ index. word (piece 2 bytes index)) _
    (λ k d below. word_fits _ (piece_bytes 2 bytes _ are))))

-- the block is there, and its number doesn't wrap
inside : (width height : ℤ) (bx by : ℕ) → bx < count_of width → by < count_of height
    → is_outside width height (pos bx) (pos by) ≡ false
inside (pos w) (pos h) bx by left low =
    let right : nat_lt bx 0 ≡ false = le-ltb bx 0 (omega arith) in
    let up : nat_lt by 0 ≡ false = le-ltb by 0 (omega arith) in
    λ i. right i || (up i || (not (lt-ltb bx w left i) || not (lt-ltb by h low i)))
inside (negsuc w) height bx by left low = absurd (omega (arith, left))
inside (pos w) (negsuc h) bx by left low = absurd (omega (arith, low))

number_is : (width height : ℤ) (bx by : ℕ) → FitsSigned w16 width → FitsSigned w16 height
    → bx < count_of width → by < count_of height
    → released_block_number width (pos bx) (pos by) ≡ pos (by * count_of width + bx)
number_is (negsuc w) height bx by f g left low = absurd (omega (arith, left))
number_is (pos w) (negsuc h) bx by f g left low = absurd (omega (arith, low))
number_is (pos w) (pos h) bx by f g left low =
    let column : bx < w = left in
    let row : by < h = low in
    let wide : w < 32768 = omega (arith, f.sfits) in
    let high : h < 32768 = omega (arith, g.sfits) in
    let room : by * w ≤ 32768 * 32768 = mul-le by w 32768 32768 (omega (arith, row, high)) (omega (arith, wide)) in
    let product : by * w % 2 ^ 32 ≡ by * w = omega arith in
    let sum : (by * w + bx) % 2 ^ 32 ≡ by * w + bx = omega arith in
    ap (λ m. int_wrapping_add w32 m (pos bx))
    (ap (to_z w32) product ∙ to_z_pos w32 (by * w) (omega arith))
    ∙ ap (to_z w32) sum
    ∙ to_z_pos w32 (by * w + bx) (omega arith)

behind_head : (words : List ℤ) (n : ℕ) → slice_get (drop 4 words) n ≡ slice_get words (4 + n)
behind_head [] n = refl
behind_head (a ∷ []) n = let e : 4 + n ≡ suc (suc n + 2) = omega arith in rw e refl
behind_head (a ∷ b ∷ []) n = let e : 4 + n ≡ suc (suc (n + 2)) = omega arith in rw e refl
behind_head (a ∷ b ∷ c ∷ []) n = let e : 4 + n ≡ suc (suc (suc (n + 1))) = omega arith in rw e refl
behind_head (a ∷ b ∷ c ∷ d ∷ words) n =
    let e : 4 + n ≡ suc (suc (suc (suc n))) = omega arith in rw e refl

-- by the offset
walked_at : (words : List ℤ) (offset : Option ℤ) (list : List ℤ)
    → option_and_then (λ z. option_and_then walked (words_from words z)) offset ≡ Some list
    → (place : ℕ) × (offset ≡ Some (pos place)) × IsWalk (drop place words) list
walked_at words None list e = absurd (none-some list e)
walked_at words (Some (pos place)) list e = (place, refl, is_walk (drop place words) list e)
walked_at words (Some (negsuc n)) list e = absurd (none-some list e)

pub released_is_list : ReleasedListIsBlockList
released_is_list bytes bx by list are left low =
    let words = numbers_of bytes in
    let width = head bytes 2 in
    let height = head bytes 3 in
    let n = by * count_of width + bx in
    let same : map (number_of Signed) words ≡ words = map-id words in
    let number =
    number_is width height bx by (head_fits bytes 2 are) (head_fits bytes 3 are) left low in
    let list_is : released_list words (pos bx) (pos by)
    ≡ option_and_then (λ z. option_and_then walked (words_from words z)) (slice_get words (4 + n)) =
    ap (λ b. if b then Some [] else released_block_list words (released_block_number width (pos bx) (pos by)))
    (inside width height bx by left low)
    ∙ ap (released_block_list words) number
    ∙ ap (option_and_then (λ z. option_and_then walked (words_from words z))) (behind_head words n) in (
      λ e.
          let at = walked_at words (slice_get words (4 + n)) list (sym list_is ∙ e) in
          record {
            place = at.0;
            offset = ap (λ ws. slice_get ws (4 + n)) same ∙ at.1;
            list_at = record {
              after = at.2.after;
              stands = ap (drop at.0) same ∙ at.2.stands;
              endless = at.2.endless;
            };
          },
      λ is.
          let offset = sym (ap (λ ws. slice_get ws (4 + n)) same) ∙ is.offset in
          let stands = sym (ap (drop is.place) same) ∙ is.list_at.stands in
          list_is
          ∙ ap (option_and_then (λ z. option_and_then walked (words_from words z))) offset
          ∙ ap walked stands
          ∙ walks list is.list_at.after is.list_at.endless,
    )
