-- A record of a fixed number of bytes, as a list of fields (ours): each stands where the one before it ends.
use Rattle.std.specs.Prelude.{◌≡◌, ℕ, ◌+◌, ◌<◌, ℤ, List, [], ◌∷◌, ◌++◌}
use Rattle.le_rec.specs.Number.{unsigned16_at, signed16_at, signed32_at, magic_at, name_at, bytes16, signed_bytes16, signed_bytes32}
use Rattle.le_rec.specs.FieldBytes.{box_at, box_bytes, magic_bytes, name_bytes}
use Rattle.le_rec.specs.FieldRange.{IsSigned16, IsSigned32, IsByteField, IsBox}

-- a signed number of two bytes, an unsigned one, a signed one of four, a magic of four bytes, a
-- name of eight, and a box of four signed numbers
pub data Field : Type 0 where
  i16 u16 i32 magic name bounds : Field

-- what a field holds
abbrev pub Value : Field → Type 0
Value i16 = ℤ
Value u16 = ℕ
Value i32 = ℤ
Value magic = List ℕ
Value name = List ℕ
Value bounds = List ℤ

-- how many bytes it takes
abbrev pub width : Field → ℕ
width i16 = 2
width u16 = 2
width i32 = 4
width magic = 4
width name = 8
width bounds = 8

-- what it holds at an offset
abbrev pub value_at : (field : Field) → List ℕ → ℕ → Value field
value_at i16 bytes at = signed16_at bytes at
value_at u16 bytes at = unsigned16_at bytes at
value_at i32 bytes at = signed32_at bytes at
value_at magic bytes at = magic_at bytes at
value_at name bytes at = name_at bytes at
value_at bounds bytes at = box_at bytes at

-- the bytes of what it holds
abbrev pub value_bytes : (field : Field) → Value field → List ℕ
value_bytes i16 value = signed_bytes16 value
value_bytes u16 value = bytes16 value
value_bytes i32 value = signed_bytes32 value
value_bytes magic value = magic_bytes value
value_bytes name value = name_bytes value
value_bytes bounds value = box_bytes value

-- what it can hold
abbrev pub IsValue : (field : Field) → Value field → Type 0
IsValue i16 value = IsSigned16 value
IsValue u16 value = value < 65536
IsValue i32 value = IsSigned32 value
IsValue magic value = IsByteField 4 value
IsValue name value = IsByteField 8 value
IsValue bounds value = IsBox value

-- the same of fields one after another
abbrev pub Values : List Field → Type 0
Values [] = Unit {0}
Values (field ∷ fields) = Value field × Values fields

abbrev pub total_width : List Field → ℕ
total_width [] = 0
total_width (field ∷ fields) = width field + total_width fields

abbrev pub values_at : (fields : List Field) → List ℕ → ℕ → Values fields
values_at [] bytes at = tt
values_at (field ∷ fields) bytes at =
    (value_at field bytes at, values_at fields bytes (at + width field))

abbrev pub values_bytes : (fields : List Field) → Values fields → List ℕ
values_bytes [] values = []
values_bytes (field ∷ fields) (value, values) =
    value_bytes field value ++ values_bytes fields values

abbrev pub AreValues : (fields : List Field) → Values fields → Type 0
AreValues [] values = Unit {0}
AreValues (field ∷ fields) (value, values) = IsValue field value × AreValues fields values

-- a record is its fields in order, no more and no less
pub record Layout (R : Type 0) : Type 0 where
  pub fields : List Field
  pub read : List ℕ → R
  pub values : R → Values fields
  pub reads : (bytes : List ℕ) → values (read bytes) ≡ values_at fields bytes 0
  pub make : Values fields → R
  pub made : (r : R) → make (values r) ≡ r

module _ {R : Type 0} (layout : Layout R) where
  abbrev pub size_of : ℕ
  size_of = total_width layout.fields

  abbrev pub read_by : List ℕ → R
  read_by = layout.read

  abbrev pub bytes_by : R → List ℕ
  bytes_by r = values_bytes layout.fields (layout.values r)

  abbrev pub IsInRange : R → Type 0
  IsInRange r = AreValues layout.fields (layout.values r)
