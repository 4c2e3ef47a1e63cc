-- The bytes of an entry's lump in its file (W_ReadLump of w_wad.c).
use Rattle.std.specs.Prelude.{◌≡◌, ℕ, ◌<◌, pos, List, length, Some}
use Rattle.std.specs.List.{slice_get}
use Rattle.le_rec.specs.declared.records.Entry.{Entry}
use Rattle.wad_dir.specs.Wad.{Wad}
use Rattle.wad_dir.specs.Standing.{StandsAt}
use Rattle.wad_dir.specs.Entries.{Listed, joined}

-- as many bytes as the entry's size, which stand at its place unless there are none
pub record IsSlice (bytes : List ℕ) (entry : Entry) (lump : List ℕ) : Type 0 where
  pub sized : pos (length lump) ≡ entry.size
  pub stands : 0 < length lump → StandsAt bytes entry.filepos lump

-- the lump of an entry of the files' one list
pub record IsLump (files : List Wad) (g : ℕ) (lump : List ℕ) : Type 0 where
  pub listed : Listed
  pub numbered : slice_get (joined files) g ≡ Some listed
  pub slice : IsSlice listed.bytes listed.entry lump
