-- The values that fields can hold (ours).
use Rattle.std.specs.Prelude.{◌≡◌, ℕ, ℤ, List, length, FitsSigned}
use Rattle.std.specs.Int.{w16, w32}
use Rattle.std.specs.List.{All}
use Rattle.le_rec.specs.Bytes.{AreBytes}

abbrev pub IsSigned16 : ℤ → Type 0
IsSigned16 z = FitsSigned w16 z

abbrev pub IsSigned32 : ℤ → Type 0
IsSigned32 z = FitsSigned w32 z

-- so many bytes, as a record holds a magic or a name
pub record IsByteField (width : ℕ) (bytes : List ℕ) : Type 0 where
  pub length_is : length bytes ≡ width
  pub are_bytes : AreBytes bytes

-- a bounding box: four numbers
pub record IsBox (box : List ℤ) : Type 0 where
  pub length_is : length box ≡ 4
  pub fits : All IsSigned16 box
