-- A WAD file as it was read (W_AddFile of w_wad.c).
use Rattle.std.specs.Prelude.{ℕ, List}
use Rattle.le_rec.specs.declared.records.Entry.{Entry}
use Rattle.wad_dir.specs.Directory.{IsDirectory}
use Rattle.wad_dir.specs.declared.header.Kind.{Kind}

-- its bytes, its kind and its entries
pub record Wad : Type 0 where
  pub bytes : List ℕ
  pub kind : Kind
  pub entries : List Entry

-- the kind and the entries are those of the bytes
abbrev pub IsRead : Wad → Type 0
IsRead file = IsDirectory file.bytes file.kind file.entries
