-- What a WAD file's bytes hold: a kind and entries (W_AddFile of w_wad.c; Unofficial Doom Specs 1.666, chapter 2).
use Rattle.std.specs.Prelude.{◌≡◌, ℕ, ◌<◌, ◌≤◌, pos, List, [], ◌∷◌, ◌++◌, length}
use Rattle.le_rec.specs.Record.{entry, entry_size}
use Rattle.le_rec.specs.declared.records.Entry.{Entry}
use Rattle.wad_dir.specs.Header.{header_of, header_size, magic_of}
use Rattle.wad_dir.specs.Standing.{StandsAt}
use Rattle.wad_dir.specs.declared.header.Kind.{Kind}

-- as many bytes as a record has, which are the record of an entry
pub record IsRecord (bytes : List ℕ) (e : Entry) : Type 0 where
  pub long : length bytes ≡ entry_size
  pub reads : entry bytes ≡ e

-- the joined records of entries
abbrev pub AreRecords : List ℕ → List Entry → Type 0
AreRecords bytes [] = bytes ≡ []
AreRecords bytes (e ∷ entries) =
    (front : List ℕ) × (rest : List ℕ) × (bytes ≡ front ++ rest) × IsRecord front e
    × AreRecords rest entries

-- the joined records of the entries stand at the header's offset
pub record HasTable (bytes : List ℕ) (entries : List Entry) : Type 0 where
  pub table : List ℕ
  pub records : AreRecords table entries
  pub stands : StandsAt bytes (header_of bytes).offset table

-- the kind and the entries of a file's bytes
pub record IsDirectory (bytes : List ℕ) (kind : Kind) (entries : List Entry) : Type 0 where
  pub header : header_size ≤ length bytes
  pub begins : (header_of bytes).magic ≡ magic_of kind
  pub counted : (header_of bytes).count ≡ pos (length entries)
  pub listed : 0 < length entries → HasTable bytes entries

abbrev pub HasDirectory : List ℕ → Type 0
HasDirectory bytes = (kind : Kind) × (entries : List Entry) × IsDirectory bytes kind entries
