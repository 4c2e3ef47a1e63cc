-- The number of the lump of a name as the released game looks it up, by numbers of 32 bits (W_CheckNumForName and
-- W_AddFile of w_wad.c, linuxdoom 1.10).
use Rattle.std.specs.Prelude.{ℕ, zero, suc, ℤ, pos, negsuc, Bool, ◌==◌, ◌&&◌, if◌then◌else◌, List, [], length, map, take, drop, slice_index_or}
use Rattle.std.specs.Char.{to_ascii_uppercase}
use Rattle.std.specs.Int.{w32, from_le_bytes}
use Rattle.le_rec.specs.Name.{name_of, padded}
use Rattle.wad_dir.specs.Wad.{Wad}
use Rattle.wad_dir.specs.Entries.{joined}

-- what strncpy leaves in eight bytes: the bytes before the first NUL, eight at most, and then NULs
abbrev pub copied : List ℕ → List ℕ
copied bytes = padded (name_of (take 8 bytes))

-- the name that is asked for, in capital letters (strncpy and strupr)
abbrev pub asked_name : List ℕ → List ℕ
asked_name asked = map to_ascii_uppercase (copied asked)

-- four of eight bytes as a number of 32 bits, the first the lowest
abbrev pub word_at : List ℕ → ℕ → ℕ
word_at name k = from_le_bytes w32 (take 4 (drop k name))

-- both numbers of a stored name are those of the one that is asked for (v1 and v2)
abbrev pub has_words : List ℕ → List ℕ → Bool
has_words stored asked =
    (word_at stored 0 == word_at asked 0) && (word_at stored 4 == word_at asked 4)

-- the loop, from so many entries down to the first; -1 where none has the words
abbrev pub released_search : List (List ℕ) → List ℕ → ℕ → ℤ
released_search stored asked zero = negsuc 0
released_search stored asked (suc i) =
    if has_words (slice_index_or stored i []) asked
    then pos i
    else released_search stored asked i

-- W_CheckNumForName, for the names that stand in the directories of the files, one file after another
abbrev pub released_number : List (List ℕ) → List ℕ → ℤ
released_number raw asked = released_search (map copied raw) (asked_name asked) (length raw)

-- the names that stand in the directories of the files
abbrev pub raw_names : List Wad → List (List ℕ)
raw_names files = map (λ listed. listed.entry.name) (joined files)
