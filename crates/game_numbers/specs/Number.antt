-- Lists of numbers (ours).
use Rattle.std.specs.Prelude.{◌||◌, ◌&&◌, ◌==◌, int_le, ℕ, ◌+◌, ◌-◌, ℤ, pos, negsuc, Bool, false, List, [], ◌∷◌, slice_index_or}
use Rattle.std.specs.List.{range_with_len}

-- the numbers from one up to another
abbrev pub upto : ℕ → ℕ → List ℕ
upto first last = range_with_len first (last + 1 - first)

-- a number is one of a list's
abbrev pub has : List ℕ → ℕ → Bool
has [] n = false
has (m ∷ ms) n = n == m || has ms n

-- a signed number is one of a list's
abbrev pub is_one_of : List ℕ → ℤ → Bool
is_one_of numbers (pos n) = has numbers n
is_one_of numbers (negsuc n) = false

-- marks of a list's numbers, a byte for each number from 0 on: an `x` (120) for those that are in it, and else a `.` (46)
abbrev pub is_marked : List ℕ → ℤ → Bool
is_marked marks (pos n) = slice_index_or marks n 46 == 120
is_marked marks (negsuc n) = false

-- a number stands from one up to another
abbrev pub is_between : ℤ → ℤ → ℤ → Bool
is_between least greatest number = int_le least number && int_le number greatest
