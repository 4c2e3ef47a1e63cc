-- The list of a block as the released game walks it (P_BlockLinesIterator of p_maputl.c and P_LoadBlockMap of
-- p_setup.c, linuxdoom 1.10), over the signed words of the lump.
use Rattle.std.specs.Prelude.{ℕ, ℤ, pos, negsuc, Bool, ◌||◌, not, List, [], ◌∷◌, drop, slice_index_or, Option, Some, None, int_lt, option_and_then, if◌then◌else◌}
use Rattle.std.specs.Int.{w32, int_wrapping_add, int_wrapping_mul}
use Rattle.std.specs.List.{slice_get}
use Rattle.std.specs.Option.{option_map}
use Rattle.std.specs.Ordering.{int_eq}

-- word k of the lump's head: bmapwidth is word 2, bmapheight word 3
abbrev pub head_word : List ℤ → ℕ → ℤ
head_word words k = slice_index_or words k (pos 0)

-- the first test: there is no block in that column and row
abbrev pub is_outside : ℤ → ℤ → ℤ → ℤ → Bool
is_outside width height x y =
    int_lt x (pos 0) || (int_lt y (pos 0) || (not (int_lt x width) || not (int_lt y height)))

-- the number of the block
abbrev pub released_block_number : ℤ → ℤ → ℤ → ℤ
released_block_number width x y = int_wrapping_add w32 (int_wrapping_mul w32 y width) x

-- the word at an index, and the words from one on; the game tests no index, so before the words and
-- past them it reads what lies there
abbrev pub word_of : List ℤ → ℤ → Option ℤ
word_of words (pos k) = slice_get words k
word_of words (negsuc k) = None

abbrev pub words_from : List ℤ → ℤ → Option (List ℤ)
words_from words (pos k) = Some (drop k words)
words_from words (negsuc k) = None

-- the words through which the loop goes, up to the first -1; none where it reads past the last word
abbrev pub walked : List ℤ → Option (List ℤ)
walked [] = None
walked (word ∷ words) =
    if int_eq word (negsuc 0) then Some [] else option_map (λ list. word ∷ list) (walked words)

-- from the offset of a block on; blockmap, where the offsets stand, is the lump behind its head
abbrev pub released_block_list : List ℤ → ℤ → Option (List ℤ)
released_block_list words number =
    option_and_then (λ offset. option_and_then walked (words_from words offset))
    (word_of (drop 4 words) number)

-- P_BlockLinesIterator, up to what is done with each word
abbrev pub released_list : List ℤ → ℤ → ℤ → Option (List ℤ)
released_list words x y =
    if is_outside (head_word words 2) (head_word words 3) x y
    then Some []
    else released_block_list words (released_block_number (head_word words 2) x y)
