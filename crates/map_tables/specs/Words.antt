-- The words of a level's BLOCKMAP, and the lists that they hold (P_BlockLinesIterator of p_maputl.c).
use Rattle.std.specs.Prelude.{◌≡◌, ◌↔◌, ℕ, ◌+◌, ◌<◌, ◌≤◌, ℤ, pos, negsuc, List, ◌∷◌, ◌++◌, length, drop, map, Some, Contains}
use Rattle.std.specs.List.{slice_get}
use Rattle.le_rec.specs.Record.{word}
use Rattle.le_rec.specs.Table.{records_of}
use Rattle.map_level.specs.Reading.{number_of}
use Rattle.map_level.specs.declared.reading.Reading.{Reading}

-- the signed numbers of a lump's pairs of bytes
abbrev pub numbers_of : List ℕ → List ℤ
numbers_of bytes = map (λ w. w.number) (records_of 2 word bytes)

-- a lump's words under a reading, and the word that ends a list
pub record Words : Type 0 where
  pub numbers : List ℤ
  pub end : ℤ

-- the words that bytes hold: -1 ends a list, as 65535 does under the wide reading
abbrev pub words_under : Reading → List ℕ → Words
words_under reading bytes = record {
  numbers = map (number_of reading) (numbers_of bytes);
  end = number_of reading (negsuc 0);
}

-- the words from a place on are the list, then an end word, then others,
-- with no end word in the list
pub record IsListAt (words : Words) (place : ℕ) (list : List ℤ) : Type 0 where
  pub after : List ℤ
  pub stands : drop place words.numbers ≡ list ++ words.end ∷ after
  pub endless : ¬ Contains list words.end

-- a list begins at each place below this one, and at no other
abbrev pub ListsBeginBelow : Words → ℕ → Type 0
ListsBeginBelow words reach =
    (place : ℕ) → (place < reach) ↔ ((list : List ℤ) × IsListAt words place list)

-- the offset of block n is this word
abbrev pub HasOffset : Words → ℕ → ℕ → Type 0
HasOffset words n place = slice_get words.numbers (4 + n) ≡ Some (pos place)

-- the list of block n: from its offset on
pub record IsBlockList (words : Words) (n : ℕ) (list : List ℤ) : Type 0 where
  pub place : ℕ
  pub offset : HasOffset words n place
  pub list_at : IsListAt words place list

-- block n has no offset word, or its offset is no word of the lump
abbrev pub IsOffsetOutside : Words → ℕ → Type 0
IsOffsetOutside words n = (place : ℕ) → HasOffset words n place → length words.numbers ≤ place

-- the offset of block n is a word, and no list begins there
pub record HasNoEnd (words : Words) (n : ℕ) : Type 0 where
  pub place : ℕ
  pub offset : HasOffset words n place
  pub inside : place < length words.numbers
  pub no_list : (list : List ℤ) → ¬ IsListAt words place list
