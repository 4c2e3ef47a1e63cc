-- What is told of an entry's lump (ours).
use Rattle.std.specs.Prelude.{◌≡◌, ℕ, ◌+◌, ◌<◌, ◌≤◌, pos, List, [], ◌∷◌, length, take, drop, Some}
use Rattle.std.specs.List.{slice_get}
use Rattle.le_rec.specs.Name.{query_of}
use Rattle.map_level.specs.Opening.{RefusesLevel}
use Rattle.map_level.specs.declared.level.LevelFault.TheVariants.{NoLabel}
use Rattle.wad_dir.specs.Entries.{Listed, joined, names}
use Rattle.wad_dir.specs.Slice.{IsLump, IsSlice}
use Rattle.wad_dir.specs.Wad.{Wad}
use Rattle.wad_dir.specs.Winner.{Wins}
use Rattle.wad_dir.specs.declared.lump.LumpFault.TheVariants as lump
use Rattle.look_engines.specs.Opening.{AreRead, RefusesFiles}
use Rattle.look_engines.specs.declared.fault.RunFault.{RunFault}
use Rattle.look_engines.specs.declared.fault.RunFault.TheVariants as fault
use Rattle.wadlook_c.specs.declared.find.WadlookLump.{WadlookLump}

-- the bytes of a file from the place on, as many as the size, are the lump of the entry, and stand where the entry says
pub record TellsLump (wad : List ℕ) (files : List Wad) (told : WadlookLump) : Type 0 where
  pub listed : Listed
  pub numbered : slice_get (joined files) told.entry ≡ Some listed
  pub slice : IsSlice wad listed.entry (take told.size (drop told.place wad))
  pub inside : told.place + told.size ≤ length wad
  pub placed : 0 < told.size → listed.entry.filepos ≡ pos told.place

-- the entry that many entries after the last one of a name, and its lump
pub record IsFound (wad name : List ℕ) (after : ℕ) (told : WadlookLump) : Type 0 where
  pub files : List Wad
  pub read : AreRead (wad ∷ []) files
  pub named : ℕ
  pub wins : Wins (names files) (query_of name) named
  pub number : told.entry ≡ named + after
  pub lump : TellsLump wad files told

-- the last entry of a name, and what holds that many entries after it
pub record After (wad name : List ℕ) (after : ℕ) (Holds : List Wad → ℕ → Type 0) : Type 0 where
  pub files : List Wad
  pub read : AreRead (wad ∷ []) files
  pub named : ℕ
  pub wins : Wins (names files) (query_of name) named
  pub holds : Holds files (named + after)

-- why there is none: the file has no directory, no entry has the name, there are not so many entries, the entry has no lump
abbrev pub RefusesLump : List ℕ → List ℕ → ℕ → RunFault → Type 0
RefusesLump wad name after (fault.Level NoLabel) =
    (files : List Wad) × AreRead (wad ∷ []) files × RefusesLevel files (query_of name) NoLabel
RefusesLump wad name after (fault.Lump lump.NoSuch) = After wad name after (λ files g. length (joined files) ≤ g)
RefusesLump wad name after (fault.Lump lump.Outside) =
    After wad name after (λ files g. (g < length (joined files)) × ((bytes : List ℕ) → ¬ IsLump files g bytes))
RefusesLump wad name after why = RefusesFiles (wad ∷ []) why

-- an entry of a file, and its lump
pub record IsFoundAt (wad : List ℕ) (entry : ℕ) (told : WadlookLump) : Type 0 where
  pub files : List Wad
  pub read : AreRead (wad ∷ []) files
  pub number : told.entry ≡ entry
  pub lump : TellsLump wad files told

-- what holds of an entry of a file
pub record Of (wad : List ℕ) (entry : ℕ) (Holds : List Wad → ℕ → Type 0) : Type 0 where
  pub files : List Wad
  pub read : AreRead (wad ∷ []) files
  pub holds : Holds files entry

-- why there is none: the file has no directory, there are not so many entries, the entry has no lump
abbrev pub RefusesLumpAt : List ℕ → ℕ → RunFault → Type 0
RefusesLumpAt wad entry (fault.Lump lump.NoSuch) = Of wad entry (λ files g. length (joined files) ≤ g)
RefusesLumpAt wad entry (fault.Lump lump.Outside) =
    Of wad entry (λ files g. (g < length (joined files)) × ((bytes : List ℕ) → ¬ IsLump files g bytes))
RefusesLumpAt wad entry why = RefusesFiles (wad ∷ []) why
