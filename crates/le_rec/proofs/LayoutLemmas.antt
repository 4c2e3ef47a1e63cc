-- The laws of every record, from its fields.
use Rattle.std.proofs.Common.{◌≡◌, ℕ, ◌+◌, ◌≤◌, List, [], ◌∷◌, ◌++◌, drop, length, slice_index, refl, sym, ap, ◌∙◌, arith, length-append}
use Rattle.std.proofs.Math.ListN.{drop_of_length-le}
use Rattle.std.proofs.lemmas.List.{get_or-drop, drop-drop, drop_at}
use Rattle.le_rec.specs.Bytes.{AreBytes}
use Rattle.le_rec.proofs.BytesLemmas.{AreBytes-append, AreBytes-nil, AreBytes-bytes16, AreBytes-bytes32}
use Rattle.le_rec.proofs.FieldLemmas.{unsigned16-field, signed16-field, signed32-field, magic-field, name-field, box-field, magic_bytes-is, name_bytes-is, box-box_bytes, IsByteField-take, IsBox-box_at, AreBytes-magic_bytes, AreBytes-name_bytes, AreBytes-box_bytes}
use Rattle.le_rec.specs.Layout.{Field, i16, u16, i32, magic, name, bounds, Value, width, value_at, value_bytes, IsValue, Values, total_width, values_at, values_bytes, AreValues, Layout, size_of, read_by, bytes_by, IsInRange}
use Rattle.le_rec.specs.Number.{signed16_at}
use Rattle.le_rec.proofs.NumberLemmas.{unsigned16-lt, unsigned16-bytes16, signed16-bytes16, signed32-bytes32, FitsSigned-signed16, FitsSigned-signed32}

-- of one field

IsValue-value_at : (field : Field) (bytes : List ℕ) (at : ℕ) → AreBytes bytes
    → at + width field ≤ length bytes → IsValue field (value_at field bytes at)
IsValue-value_at i16 bytes at bs h = FitsSigned-signed16 _ _ (bs.each at) (bs.each (at + 1))
IsValue-value_at u16 bytes at bs h = unsigned16-lt _ _ (bs.each at) (bs.each (at + 1))
IsValue-value_at i32 bytes at bs h =
    FitsSigned-signed32 _ _ _ _ (bs.each at) (bs.each (at + 1)) (bs.each (at + 2))
    (bs.each (at + 3))
IsValue-value_at magic bytes at bs h = IsByteField-take 4 bytes at bs h
IsValue-value_at name bytes at bs h = IsByteField-take 8 bytes at bs h
IsValue-value_at bounds bytes at bs h = IsBox-box_at bytes at bs

length-value_bytes : (field : Field) (value : Value field)
    → length (value_bytes field value) ≡ width field
length-value_bytes i16 value = refl
length-value_bytes u16 value = refl
length-value_bytes i32 value = refl
length-value_bytes magic value = refl
length-value_bytes name value = refl
length-value_bytes bounds value = refl

AreBytes-value_bytes : (field : Field) (value : Value field) → IsValue field value
    → AreBytes (value_bytes field value)
AreBytes-value_bytes i16 value h = AreBytes-bytes16 _
AreBytes-value_bytes u16 value h = AreBytes-bytes16 _
AreBytes-value_bytes i32 value h = AreBytes-bytes32 _
AreBytes-value_bytes magic value h = AreBytes-magic_bytes value h
AreBytes-value_bytes name value h = AreBytes-name_bytes value h
AreBytes-value_bytes bounds value h = AreBytes-box_bytes value

-- the bytes of what a field holds are the field's bytes
field_back : (field : Field) (bytes rest : List ℕ) (at : ℕ) → AreBytes bytes
    → at + width field ≤ length bytes → rest ≡ drop (at + width field) bytes
    → value_bytes field (value_at field bytes at) ++ rest ≡ drop at bytes
field_back i16 bytes rest at bs h e = signed16-field bytes rest at bs h e
field_back u16 bytes rest at bs h e = unsigned16-field bytes rest at bs h e
field_back i32 bytes rest at bs h e = signed32-field bytes rest at bs h e
field_back magic bytes rest at bs h e = magic-field bytes rest at bs h e
field_back name bytes rest at bs h e = name-field bytes rest at bs h e
field_back bounds bytes rest at bs h e = box-field bytes rest at bs h e

-- a field is read of the bytes from it on
byte_at-drop : (bytes : List ℕ) (at i : ℕ)
    → slice_index bytes (at + i) ≡ slice_index (drop at bytes) i
byte_at-drop bytes at i = sym (get_or-drop at bytes i 0)

first_at-drop : (bytes : List ℕ) (at : ℕ) → slice_index bytes at ≡ slice_index (drop at bytes) 0
first_at-drop bytes at =
    let same : at ≡ at + 0 = omega arith in ap (slice_index bytes) same ∙ byte_at-drop bytes at 0

signed16_at-drop : (bytes : List ℕ) (at i : ℕ)
    → signed16_at bytes (at + i) ≡ signed16_at (drop at bytes) i
signed16_at-drop bytes at i =
    let next : at + i + 1 ≡ at + (i + 1) = omega arith in
    rw (next, byte_at-drop bytes at i, byte_at-drop bytes at (i + 1)) refl

value_at-drop : (field : Field) (bytes : List ℕ) (at : ℕ)
    → value_at field bytes at ≡ value_at field (drop at bytes) 0
value_at-drop i16 bytes at = rw (first_at-drop bytes at, byte_at-drop bytes at 1) refl
value_at-drop u16 bytes at = rw (first_at-drop bytes at, byte_at-drop bytes at 1) refl
value_at-drop i32 bytes at =
    rw (
      first_at-drop bytes at,
      byte_at-drop bytes at 1,
      byte_at-drop bytes at 2,
      byte_at-drop bytes at 3,
    ) refl
value_at-drop magic bytes at = refl
value_at-drop name bytes at = refl
value_at-drop bounds bytes at =
    let first : at ≡ at + 0 = omega arith in
    rw (
      ap (signed16_at bytes) first ∙ signed16_at-drop bytes at 0,
      signed16_at-drop bytes at 2,
      signed16_at-drop bytes at 4,
      signed16_at-drop bytes at 6,
    ) refl

-- and of its own bytes
value_again : (field : Field) (value : Value field) (rest : List ℕ) → IsValue field value
    → value_at field (value_bytes field value ++ rest) 0 ≡ value
value_again i16 value rest h = signed16-bytes16 value h
value_again u16 value rest h = unsigned16-bytes16 value h
value_again i32 value rest h = signed32-bytes32 value h
value_again magic value rest h = magic_bytes-is value h.length_is
value_again name value rest h = name_bytes-is value h.length_is
value_again bounds value rest h = box-box_bytes value h

-- of fields one after another

AreValues-values_at : (fields : List Field) (bytes : List ℕ) (at : ℕ) → AreBytes bytes
    → at + total_width fields ≤ length bytes → AreValues fields (values_at fields bytes at)
AreValues-values_at [] bytes at bs h = tt
AreValues-values_at (field ∷ fields) bytes at bs h = (
  IsValue-value_at field bytes at bs (omega arith),
  AreValues-values_at fields bytes (at + width field) bs (omega arith),
)

length-values_bytes : (fields : List Field) (values : Values fields)
    → length (values_bytes fields values) ≡ total_width fields
length-values_bytes [] values = refl
length-values_bytes (field ∷ fields) (value, values) =
    length-append (value_bytes field value) (values_bytes fields values)
    ∙ omega (arith, length-value_bytes field value, length-values_bytes fields values)

AreBytes-values_bytes : (fields : List Field) (values : Values fields) → AreValues fields values
    → AreBytes (values_bytes fields values)
AreBytes-values_bytes [] values h = AreBytes-nil
AreBytes-values_bytes (field ∷ fields) (value, values) (v, vs) =
    AreBytes-append _ _ (AreBytes-value_bytes field value v)
    (AreBytes-values_bytes fields values vs)

bytes_back : (fields : List Field) (bytes : List ℕ) (at : ℕ) → AreBytes bytes
    → length bytes ≡ at + total_width fields
    → values_bytes fields (values_at fields bytes at) ≡ drop at bytes
bytes_back [] bytes at bs h = sym (drop_of_length-le bytes (omega arith))
bytes_back (field ∷ fields) bytes at bs h =
    field_back field bytes _ at bs (omega arith)
    (bytes_back fields bytes (at + width field) bs (omega arith))

values_again : (fields : List Field) (values : Values fields) (bytes : List ℕ) (at : ℕ)
    → AreValues fields values → drop at bytes ≡ values_bytes fields values
    → values_at fields bytes at ≡ values
values_again [] values bytes at h e = refl
values_again (field ∷ fields) (value, values) bytes at (v, vs) e =
    let first : value_at field bytes at ≡ value =
    value_at-drop field bytes at ∙ ap (λ bs. value_at field bs 0) e
    ∙ value_again field value (values_bytes fields values) v in
    let after : drop (at + width field) bytes ≡ values_bytes fields values =
    sym (drop-drop (width field) at bytes) ∙ ap (drop (width field)) e
    ∙ drop_at (value_bytes field value) (values_bytes fields values) (width field)
    (length-value_bytes field value) in
    rw (first, values_again fields values bytes (at + width field) vs after) refl

-- of every record

module _ {R : Type 0} (layout : Layout R) where
  pub read_in_range : (bytes : List ℕ) → length bytes ≡ size_of layout → AreBytes bytes
      → IsInRange layout (read_by layout bytes)
  read_in_range bytes h bs =
      rw (layout.reads bytes) (AreValues-values_at layout.fields bytes 0 bs (omega arith))

  pub writes_back : (bytes : List ℕ) → length bytes ≡ size_of layout → AreBytes bytes
      → bytes_by layout (read_by layout bytes) ≡ bytes
  writes_back bytes h bs =
      rw (layout.reads bytes) (bytes_back layout.fields bytes 0 bs (omega arith))

  pub reads_back : (r : R) → IsInRange layout r → read_by layout (bytes_by layout r) ≡ r
  reads_back r h =
      sym (layout.made (read_by layout (bytes_by layout r)))
      ∙ ap layout.make (layout.reads (bytes_by layout r)
      ∙ values_again layout.fields (layout.values r) (bytes_by layout r) 0 h refl)
      ∙ layout.made r

  pub bytes_length : (r : R) → length (bytes_by layout r) ≡ size_of layout
  bytes_length r = length-values_bytes layout.fields (layout.values r)

  pub bytes_are_bytes : (r : R) → IsInRange layout r → AreBytes (bytes_by layout r)
  bytes_are_bytes r h = AreBytes-values_bytes layout.fields (layout.values r) h
