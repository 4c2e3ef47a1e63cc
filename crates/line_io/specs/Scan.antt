-- What the steps of reading a line find (ours): a number that bytes begin with.
use Rattle.std.specs.Prelude.{◌≡◌, ℕ, ℤ, Bool, true, false, List, [], ◌∷◌, ◌++◌, IsTrue}
use Rattle.std.specs.Fmt.{signed_decimal}
use Rattle.line_io.specs.Numbers.{IsDigit, IsNumber, nearest}

-- no digit comes next
abbrev pub IsNoDigitFirst : List ℕ → Type 0
IsNoDigitFirst [] = Unit {0}
IsNoDigitFirst (byte ∷ bytes) = IsDigit byte → ⊥

-- a space or nothing
abbrev pub separator : Bool → List ℕ
separator false = []
separator true = 32 ∷ []

-- a number whose digits all stand there, behind a space or nothing: the `i32` nearest to it,
-- whether it is told to stand there as it is printed, and what follows
pub record StartsWith (separated : Bool) (bytes : List ℕ) (value : ℤ) (is_printed : Bool)
    (rest : List ℕ) : Type 0 where
  pub text : List ℕ
  pub exact : ℤ
  pub spelled : bytes ≡ separator separated ++ (text ++ rest)
  pub number : IsNumber text exact
  pub brought : value ≡ nearest exact
  pub printed : IsTrue is_printed → text ≡ signed_decimal value
  pub ended : IsNoDigitFirst rest

-- no number stands there
abbrev pub LacksNumber : Bool → List ℕ → Type 0
LacksNumber separated bytes =
    (text rest : List ℕ) (number : ℤ) → IsNumber text number
    → bytes ≡ separator separated ++ (text ++ rest) → ⊥
