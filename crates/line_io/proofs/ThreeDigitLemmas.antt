-- The digits of a number below 256, as they stand in the table.
use Rattle.std.proofs.Common.{◌≡◌, ℕ, ◌+◌, ◌*◌, ◌/◌, ◌%◌, ◌<◌, List, [], ◌∷◌, map, take, drop, get_or, refl, sym, ap, ◌∙◌, arith}
use Rattle.std.proofs.lemmas.List.FromFn.{get_or-map-range_with_len}
use Rattle.std.specs.List.{range_with_len}
use Rattle.line_io.specs.declared.digits.TheConstants.{THREE_DIGITS}

abbrev looked_up : ℕ → List ℕ
looked_up n = take 3 (drop (3 * n) THREE_DIGITS.now)

-- by hundreds, tens and ones
abbrev pub digits_by_place : ℕ → List ℕ
digits_by_place n = (48 + n / 100) ∷ (48 + n / 10 % 10) ∷ (48 + n % 10) ∷ []

table_is : map looked_up (range_with_len 0 256) ≡ map digits_by_place (range_with_len 0 256)
table_is = refl

pub looked_up_is : (n : ℕ) → n < 256 → take 3 (drop (3 * n) THREE_DIGITS.now) ≡ digits_by_place n
looked_up_is n small = sym (get_or-map-range_with_len looked_up 0 256 n n [] small (omega arith))
    ∙ ap (λ t. get_or t n []) table_is ∙ get_or-map-range_with_len digits_by_place 0 256 n n [] small (omega arith)
