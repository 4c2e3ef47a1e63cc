-- How what a cell shows stands in a number (ours).
use Rattle.std.specs.Prelude.{◌≡◌, ℕ, zero, suc, ◌+◌, ◌/◌, ◌%◌, ◌<◌, ◌≤◌, List, length, Option, Some, None, slice_index_or}

-- 0 where nothing is shown, and else one more than the sector's number
abbrev pub seen_of : ℕ → Option ℕ
seen_of zero = None
seen_of (suc s) = Some s

-- a cell's number has its code, and how many cells behind it are known to have the same
abbrev pub code_in : ℕ → ℕ
code_in number = number % 131072

abbrev pub known_in : ℕ → ℕ
known_in number = number / 131072

-- what a cell of a number shows
abbrev pub shown_in : ℕ → Option ℕ
shown_in number = seen_of (code_in number)

-- those cells are there and have the same code
abbrev pub AreKnown : List ℕ → Type 0
AreKnown numbers = (k n : ℕ) → k < length numbers → n ≤ known_in (slice_index_or numbers k 0)
    → (k + n < length numbers) × (code_in (slice_index_or numbers (k + n) 0) ≡ code_in (slice_index_or numbers k 0))
