-- The words of a part of a lump.
use Rattle.std.proofs.Common.{◌≡◌, ℕ, ◌+◌, ◌-◌, ◌*◌, ◌/◌, ◌<◌, ◌≤◌, ℤ, List, ◌∷◌, length, take, drop, get_or, Some, sym, ap, ◌∙◌, arith}
use Rattle.std.specs.List.{slice_get}
use Rattle.std.specs.Option.{option_map}
use Rattle.std.proofs.lemmas.List.{length-map, length-take, length-drop, drop-drop, drop_more, drop-take, take-take, get_or-take, get_or-drop, same_lists}
use Rattle.std.proofs.lemmas.Option.{slice_get-map, get_or_from_slice_get}
use Rattle.le_rec.specs.Number.{signed16_at}
use Rattle.le_rec.specs.Record.{word}
use Rattle.le_rec.specs.Table.{piece, records_of}
use Rattle.le_rec.proofs.TableLemmas.{length-records_of, slice_get-records_of}
use Rattle.map_level.specs.Reading.{number_of}
use Rattle.map_level.specs.declared.reading.Reading.{Reading}
use Rattle.map_tables.specs.Words.{numbers_of, words_under}

module _ (reading : Reading) (bytes : List ℕ) where
  pub length-words : length (words_under reading bytes).numbers ≡ length bytes / 2
  length-words =
      length-map (numbers_of bytes) (number_of reading)
      ∙ length-map (records_of 2 word bytes) (λ w. w.number)
      ∙ length-records_of 2 word bytes

  -- a word is read of its two bytes
  pub slice_get-words : (i : ℕ) → i < length bytes / 2
      → slice_get (words_under reading bytes).numbers i
      ≡ Some (number_of reading (word (piece 2 bytes i)).number)
  slice_get-words i h =
      slice_get-map (number_of reading) (numbers_of bytes) i
      ∙ ap (option_map (number_of reading))
      (slice_get-map (λ w. w.number) (records_of 2 word bytes) i
      ∙ ap (option_map (λ w. w.number)) (slice_get-records_of 2 word bytes i h))

  -- its pieces are those of the bytes from there on
  piece-drop : (from i : ℕ) → piece 2 (drop (2 * from) bytes) i ≡ piece 2 bytes (from + i)
  piece-drop from i =
      let at : 2 * from + i * 2 ≡ (from + i) * 2 = omega arith in
      ap (take 2) (drop-drop (i * 2) (2 * from) bytes ∙ ap (λ n. drop n bytes) at)

  piece-take : (n i : ℕ) → i < n → piece 2 (take (2 * n) bytes) i ≡ piece 2 bytes i
  piece-take n i h =
      let more : 2 * n ≡ i * 2 + (2 * n - i * 2) = omega arith in
      ap (λ m. take 2 (drop (i * 2) (take m bytes))) more
      ∙ ap (take 2) (drop-take (i * 2) (2 * n - i * 2) bytes)
      ∙ take-take 2 (2 * n - i * 2) (drop (i * 2) bytes) (omega arith)

module _ (reading : Reading) (bytes : List ℕ) where
  -- a word by its number, whatever stands past the last one
  get_or-words : (i : ℕ) (d : ℤ) → i < length bytes / 2
      → get_or (words_under reading bytes).numbers i d
      ≡ number_of reading (word (piece 2 bytes i)).number
  get_or-words i d h =
      get_or_from_slice_get (words_under reading bytes).numbers i _ d
      (slice_get-words reading bytes i h)

-- the words of a lump from a word on
pub words-drop : (reading : Reading) (bytes : List ℕ) (from : ℕ) → 2 * from ≤ length bytes
    → (words_under reading (drop (2 * from) bytes)).numbers
    ≡ drop from (words_under reading bytes).numbers
words-drop reading bytes from h =
    let all = (words_under reading bytes).numbers in
    let long = length-words reading (drop (2 * from) bytes) in
    let part : length (drop (2 * from) bytes) ≡ length bytes - 2 * from =
    length-drop (2 * from) bytes in
    same_lists _ _ (omega (arith, long, part, length-drop from all, length-words reading bytes))
    (λ k d below.
    let inside : k < length (drop (2 * from) bytes) / 2 = omega (arith, long, below) in
    get_or-words reading (drop (2 * from) bytes) k d inside
    ∙ ap (λ two. number_of reading (word two).number) (piece-drop reading bytes from k)
    ∙ sym (get_or-drop from all k d
    ∙ get_or-words reading bytes (from + k) d (omega (arith, inside, part))))

-- the first words of a lump
pub words-take : (reading : Reading) (bytes : List ℕ) (n : ℕ) → 2 * n ≤ length bytes
    → (words_under reading (take (2 * n) bytes)).numbers
    ≡ take n (words_under reading bytes).numbers
words-take reading bytes n h =
    let all = (words_under reading bytes).numbers in
    let long = length-words reading (take (2 * n) bytes) in
    let part : length (take (2 * n) bytes) ≡ 2 * n = length-take (2 * n) bytes ∙ omega arith in
    same_lists _ _ (omega (arith, long, part, length-take n all, length-words reading bytes))
    (λ k d below.
    let inside : k < n = omega (arith, long, below, part) in
    get_or-words reading (take (2 * n) bytes) k d (omega (arith, inside, part))
    ∙ ap (λ two. number_of reading (word two).number) (piece-take reading bytes n k inside)
    ∙ sym
    (get_or-take n all k d inside ∙ get_or-words reading bytes k d (omega (arith, inside, h))))

-- the words of a part
pub words-part : (reading : Reading) (bytes : List ℕ) (from to : ℕ) → from ≤ to
    → 2 * to ≤ length bytes
    → (words_under reading (take (2 * to - 2 * from) (drop (2 * from) bytes))).numbers
    ≡ take (to - from) (drop from (words_under reading bytes).numbers)
words-part reading bytes from to ordered within =
    let long : 2 * to - 2 * from ≡ 2 * (to - from) = omega arith in
    let part = drop (2 * from) bytes in
    ap (λ n. (words_under reading (take n part)).numbers) long
    ∙ words-take reading part (to - from) (omega (arith, length-drop (2 * from) bytes))
    ∙ ap (take (to - from)) (words-drop reading bytes from (omega arith))

-- the first word and the others
pub words-first : (reading : Reading) (bytes : List ℕ) → 2 ≤ length bytes
    → (words_under reading bytes).numbers
    ≡ number_of reading (signed16_at (take 2 bytes) 0)
    ∷ (words_under reading (drop 2 bytes)).numbers
words-first reading bytes h =
    let all = (words_under reading bytes).numbers in
    let d = number_of reading (signed16_at (take 2 bytes) 0) in
    let some : 0 < length all = omega (arith, length-words reading bytes) in
    drop_more all 0 d some
    ∙ ap (λ first. first ∷ drop 1 all) (get_or-words reading bytes 0 d (omega arith))
    ∙ ap (λ rest. d ∷ rest) (sym (words-drop reading bytes 1 h))
