-- The numbers of an input line (ours): which bytes are a number, what it stands for, and which are a list of numbers.
use Rattle.std.specs.Prelude.{◌≡◌, ℕ, ◌+◌, ◌-◌, ◌*◌, ◌^◌, ◌<◌, ◌≤◌, ℤ, pos, negsuc, neg_ℤ, min, Bool, true, false, List, [], ◌∷◌, ◌++◌, length, All, map, Option, Some, None, option_map, if◌then◌else◌, ◌==◌, ◌&&◌, nat_lt, nat_le}
use Rattle.std.specs.Fmt.{signed_decimal}
use Rattle.std.specs.List.{AllZip, join_with_byte, list_all, slice_split}
use Rattle.line_io.specs.declared.lines.TheConstants.{MAX_CONTENT}

-- an ASCII digit
abbrev pub IsDigit : ℕ → Type 0
IsDigit byte = (48 ≤ byte) × (byte ≤ 57)

-- the number that digits stand for: each has the weight of its place
abbrev pub value_of : List ℕ → ℕ
value_of [] = 0
value_of (digit ∷ digits) = (digit - 48) * 10 ^ length digits + value_of digits

-- `-` or nothing
abbrev pub sign_text : Bool → List ℕ
sign_text false = []
sign_text true = 45 ∷ []

-- the whole number that a sign and digits stand for
abbrev pub signed : Bool → ℕ → ℤ
signed false n = pos n
signed true n = neg_ℤ (pos n)

-- an optional `-` and one or more digits, and the whole number that they stand for
pub record IsNumber (text : List ℕ) (number : ℤ) : Type 0 where
  pub negative : Bool
  pub digits : List ℕ
  pub spelled : text ≡ sign_text negative ++ digits
  pub some_digit : 0 < length digits
  pub all_digits : All IsDigit digits
  pub stands_for : number ≡ signed negative (value_of digits)

-- the texts of the numbers, joined by single spaces
pub record AreNumbers (content : List ℕ) (numbers : List ℤ) : Type 0 where
  pub texts : List (List ℕ)
  pub each : AllZip IsNumber texts numbers
  pub joined : content ≡ join_with_byte 32 texts

-- the content has the form that is asked for, so many numbers in at most
-- 64 bytes, and they are these
pub record HasForm (count : ℕ) (content : List ℕ) (numbers : List ℤ) : Type 0 where
  pub short : length content ≤ MAX_CONTENT
  pub counted : length numbers ≡ count
  pub read : AreNumbers content numbers

-- the number of an `i32` that is nearest to a number
abbrev pub nearest : ℤ → ℤ
nearest (pos n) = pos (min n 2147483647)
nearest (negsuc n) = negsuc (min n 2147483647)

-- the text of numbers as they are printed, with one space between two
abbrev pub printed : List ℤ → List ℕ
printed numbers = join_with_byte 32 (map signed_decimal numbers)

-- the number that one digit or more stand for
abbrev pub natural_of : List ℕ → Option ℕ
natural_of digits =
    if nat_lt 0 (length digits) && list_all (λ byte. nat_le 48 byte && nat_le byte 57) digits
    then Some (value_of digits)
    else None

-- the number that a text stands for
abbrev pub number_of : List ℕ → Option ℤ
number_of [] = None
number_of (byte ∷ bytes) =
    if byte == 45
    then option_map (signed true) (natural_of bytes)
    else option_map (signed false) (natural_of (byte ∷ bytes))

-- all of them, where none is missing
abbrev pub all_some : List (Option ℤ) → Option (List ℤ)
all_some [] = Some []
all_some (None ∷ numbers) = None
all_some (Some number ∷ numbers) = option_map (λ rest. number ∷ rest) (all_some numbers)

-- the numbers of a content, as a function: those of its parts between spaces
abbrev pub numbers_of : List ℕ → Option (List ℤ)
numbers_of [] = Some []
numbers_of (byte ∷ bytes) = all_some (map number_of (slice_split (λ b. b == 32) (byte ∷ bytes)))
