-- Whether as many sides leave each vertex as reach it, sector by sector: numbers of sides by their sectors, and counts of their ends (ours).
use Rattle.std.specs.Prelude.{◌≡◌, ℕ, ◌+◌, ◌*◌, ◌/◌, ◌%◌, ◌^◌, ◌<◌, ◌==◌, zero, suc, List, [], ◌++◌, length, count_by, sum_by, slice_index_or, if◌then◌else◌}
use Rattle.map_warnings.specs.KeyLinks.{of_key}

-- the sector of a side's number
abbrev pub sector_in : ℕ → ℕ
sector_in n = n / 131072

-- the end of a side's number: twice the vertex that the side reaches, and one more than that of the one that it leaves
abbrev pub end_in : ℕ → ℕ
end_in n = n % 131072

-- the numbers of the sectors below one, sector by sector
abbrev pub of_sectors : ℕ → List ℕ → List ℕ
of_sectors zero numbers = []
of_sectors (suc s) numbers = of_sectors s numbers ++ of_key sector_in s numbers

-- how many numbers have an end
abbrev pub with_end : ℕ → List ℕ → ℕ
with_end e numbers = count_by (λ n. end_in n == e) numbers

-- for each end how many numbers have it
abbrev pub CountEnds : List ℕ → List ℕ → Type 0
CountEnds numbers counts = (e : ℕ) → e < length counts → slice_index_or counts e 0 ≡ with_end e numbers

-- the vertex of a number has as many that leave it as reach it
abbrev pub HasBalance : List ℕ → ℕ → Type 0
HasBalance counts n =
    let vertex = end_in n / 2 in slice_index_or counts (vertex * 2) 0 ≡ slice_index_or counts (vertex * 2 + 1) 0

-- for each pair of a sector and a vertex, the numbers have as many sides that leave as reach
abbrev pub AreBalanced : List ℕ → Type 0
AreBalanced numbers = (pair : ℕ) → count_by (λ n. n == pair * 2) numbers ≡ count_by (λ n. n == pair * 2 + 1) numbers

-- the square of the sector and the vertex of a side's number, where it is of the vertex that the side reaches (0) or leaves (1)
abbrev pub square_in : ℕ → ℕ → ℕ
square_in end n = let pair = n / 2 % 2 ^ 32 in if n % 2 == end then pair * pair % 2 ^ 64 else 0

-- the sum of these squares in 64 bits
abbrev pub squares_in : ℕ → List ℕ → ℕ
squares_in end numbers = sum_by (square_in end) numbers % 2 ^ 64
