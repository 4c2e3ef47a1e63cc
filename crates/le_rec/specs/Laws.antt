-- Laws of records, of a layout and its number of bytes (ours).
use Rattle.std.specs.Prelude.{◌≡◌, ℕ, ◌*◌, ◌/◌, List, length, take}
use Rattle.std.specs.List.{flat_map}
use Rattle.le_rec.specs.Bytes.{AreBytes}
use Rattle.le_rec.specs.Layout.{Layout, read_by, bytes_by, IsInRange}
use Rattle.le_rec.specs.Table.{records_of}

module _ {R : Type 0} (size : ℕ) (layout : Layout R) where
  -- what bytes hold is in its fields' ranges
  abbrev pub RecordsAreInRange : Type 0
  RecordsAreInRange =
      (bytes : List ℕ) → length bytes ≡ size → AreBytes bytes
      → IsInRange layout (read_by layout bytes)

  -- the bytes of a record read as that record
  abbrev pub RecordsReadBack : Type 0
  RecordsReadBack =
      (r : R) → IsInRange layout r
      → (length (bytes_by layout r) ≡ size) × (read_by layout (bytes_by layout r) ≡ r)

  -- byte lists that read as the same record are the same
  abbrev pub EqualRecordsHaveEqualBytes : Type 0
  EqualRecordsHaveEqualBytes =
      (a b : List ℕ) → length a ≡ size → length b ≡ size → AreBytes a → AreBytes b
      → read_by layout a ≡ read_by layout b → a ≡ b

  -- the bytes of a table's records, joined, are its bytes but those left over
  abbrev pub RecordsAreJoined : Type 0
  RecordsAreJoined =
      (bytes : List ℕ) → AreBytes bytes
      → flat_map (bytes_by layout) (records_of size (read_by layout) bytes)
      ≡ take (length bytes / size * size) bytes
