-- Facts about one pull of a block.
use Rattle.std.proofs.Common.{◌≡◌, ℕ, ◌+◌, ◌-◌, ◌≤◌, ◌<◌, min, true, false, eqb, List, [], length, take, arith, length-take}
use Rattle.std.proofs.lemmas.Bool.Decides.{nat_tests}
use Rattle.std.proofs.lemmas.List.{nil_from_length}

-- a block that fits its room goes at most one byte past the limit
pub one_past : (size read limit room n : ℕ) (block : List ℕ) → n ≤ length (take room block)
    → room ≡ min (limit + 1 - read) size → read ≤ limit → read + n ≤ limit + 1
one_past size read limit room n block fits is_room within = omega (arith, length-take room block)

-- what `is_empty` tells
pub nil_from_empty : (bytes : List ℕ) → true ≡ eqb (length bytes) 0 → bytes ≡ []
nil_from_empty bytes e =
    let h : length bytes ≡ 0 = grind (arith, nat_tests) in nil_from_length bytes h

pub some_from_empty : (n : ℕ) → false ≡ eqb n 0 → 0 < n
some_from_empty n e = grind (arith, nat_tests)
