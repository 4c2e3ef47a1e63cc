-- Decimal text, as numbers are printed (ours): `decimal n` of a natural number, `signed_decimal z` of a whole number.
use Rattle.std.specs.Prelude.{◌≡◌, ℕ, ◌<◌, List, length, All, slice_index}
use Rattle.line_io.specs.Numbers.{IsDigit, value_of}

-- one or more digits with no leading zero, and the number that they stand for
pub record IsDecimal (text : List ℕ) (number : ℕ) : Type 0 where
  pub some_digit : 0 < length text
  pub all_digits : All IsDigit text
  pub no_leading_zero : slice_index text 0 ≡ 48 → length text ≡ 1
  pub stands_for : value_of text ≡ number
