-- Levels by the entries of their labels (ours), and why one isn't judged.
use Rattle.std.specs.Prelude.{◌≡◌, ◌≢◌, ℕ, List, [], ◌∷◌}
use Rattle.level_starts.specs.Format.{IsFormat}
use Rattle.level_starts.specs.Starts.{LevelStartsAt}
use Rattle.level_starts.specs.declared.format.Format.{Format}
use Rattle.level_starts.specs.declared.format.Format.TheVariants.{Incomplete, Outside, Doom}
use Rattle.look_engines.specs.Opening.{AreRead, RefusesFiles}
use Rattle.look_engines.specs.declared.fault.RunFault.TheVariants as fault
use Rattle.map_level.specs.Level.{Level}
use Rattle.map_level.specs.Opening.{IsLevelAt}
use Rattle.map_level.specs.declared.reading.Reading.{Reading}
use Rattle.map_tree.specs.Sound.{IsSound}
use Rattle.wad_dir.specs.Entries.{names}
use Rattle.wad_dir.specs.Wad.{Wad}
use Rattle.wadlook_c.specs.Status.{number_of}
use Rattle.wadlook_c.specs.declared.entry.EntryFault.{EntryFault}
use Rattle.wadlook_c.specs.declared.entry.EntryFault.TheVariants.{Run, NoLevel, Format as OfFormat}

-- the level in Doom's format whose label is an entry of a file
pub record IsEntry (wad : List ℕ) (entry : ℕ) (reading : Reading) (level : Level) : Type 0 where
  pub files : List Wad
  pub read : AreRead (wad ∷ []) files
  pub starts : LevelStartsAt (names files) entry
  pub doom : IsFormat files entry Doom
  pub there : IsLevelAt files entry reading level

-- no level starts at the entry
pub record StartsNone (wad : List ℕ) (entry : ℕ) : Type 0 where
  pub files : List Wad
  pub read : AreRead (wad ∷ []) files
  pub none : ¬ LevelStartsAt (names files) entry

-- the level that starts there is in another format
pub record IsOfOther (wad : List ℕ) (entry : ℕ) (format : Format) : Type 0 where
  pub files : List Wad
  pub read : AreRead (wad ∷ []) files
  pub starts : LevelStartsAt (names files) entry
  pub is : IsFormat files entry format
  pub other : format ≢ Doom

-- why an entry's level isn't opened
abbrev pub RefusesEntry : List ℕ → ℕ → EntryFault → Type 0
RefusesEntry wad entry (Run why) = RefusesFiles (wad ∷ []) why
RefusesEntry wad entry NoLevel = StartsNone wad entry
RefusesEntry wad entry (OfFormat format) = IsOfOther wad entry format

-- the level at an entry, which is sound
pub record IsAcceptedAt (wad : List ℕ) (entry : ℕ) (reading : Reading) (level : Level) : Type 0 where
  pub opened : IsEntry wad entry reading level
  pub sound : IsSound level

-- it has a fault
pub record IsUnsoundAt (wad : List ℕ) (entry : ℕ) (reading : Reading) : Type 0 where
  pub level : Level
  pub opened : IsEntry wad entry reading level
  pub unsound : ¬ IsSound level

-- why it isn't judged
abbrev pub RefusesAcceptedAt : List ℕ → ℕ → Reading → EntryFault → Type 0
RefusesAcceptedAt wad entry reading (Run fault.Audit) = IsUnsoundAt wad entry reading
RefusesAcceptedAt wad entry reading why = RefusesEntry wad entry why

-- the number of a format that isn't judged: a lump isn't there or isn't inside the file, or the format is another port's or game's
abbrev pub format_number_of : Format → ℕ
format_number_of (Incomplete k) = 9
format_number_of (Outside k) = 10
format_number_of _ = 29

-- the number of why an entry's level isn't judged
abbrev pub entry_number_of : EntryFault → ℕ
entry_number_of (Run why) = number_of why
entry_number_of NoLevel = 28
entry_number_of (OfFormat format) = format_number_of format

-- a status is that of a reason that holds
pub record EndsAt (Reason : EntryFault → Type 0) (status : ℕ) : Type 0 where
  pub why : EntryFault
  pub number : status ≡ entry_number_of why
  pub holds : Reason why
