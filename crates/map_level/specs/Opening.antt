-- Which level several files hold under a name, or why there is none (P_SetupLevel of p_setup.c).
use Rattle.std.specs.Prelude.{◌≡◌, ◌≢◌, ℕ, ◌+◌, ◌<◌, ◌≤◌, List, length, Some}
use Rattle.std.specs.List.{slice_get}
use Rattle.wad_dir.specs.Wad.{Wad}
use Rattle.wad_dir.specs.Entries.{joined, names}
use Rattle.wad_dir.specs.Winner.{Wins}
use Rattle.wad_dir.specs.Slice.{IsLump}
use Rattle.map_level.specs.Level.{Level, lump_of, level_of}
use Rattle.map_level.specs.declared.level.LevelFault.{LevelFault}
use Rattle.map_level.specs.declared.level.LevelFault.TheVariants.{NoLabel, Missing, Outside}
use Rattle.map_level.specs.declared.reading.Reading.{Reading}

-- the names of a label and of the ten entries after it
pub record AreNames (files : List Wad) (label : ℕ) (found : List (List ℕ)) : Type 0 where
  pub eleven : length found ≡ 11
  pub each : (k : ℕ) → k ≤ 10 → slice_get found k ≡ slice_get (names files) (label + k)

-- the lumps of the ten entries after a label
pub record AreLumps (files : List Wad) (label : ℕ) (lumps : List (List ℕ)) : Type 0 where
  pub ten : length lumps ≡ 10
  pub each : (k : ℕ) → 1 ≤ k → k ≤ 10 → IsLump files (label + k) (lump_of lumps k)

-- the level at a label, whatever its name: that of the ten entries after it
pub record IsLevelAt (files : List Wad) (label : ℕ) (reading : Reading) (level : Level) : Type 0 where
  pub found : List (List ℕ)
  pub named : AreNames files label found
  pub lumps : List (List ℕ)
  pub stand : AreLumps files label lumps
  pub is : level ≡ level_of label reading found lumps

-- the level of files and a name: the one at the winner
pub record IsLevel (files : List Wad) (name : List ℕ) (reading : Reading) (level : Level) : Type 0 where
  pub wins : Wins (names files) name level.label
  pub there : IsLevelAt files level.label reading level

-- the lumps before k are there
abbrev pub AreThereBelow : List Wad → ℕ → ℕ → Type 0
AreThereBelow files label k =
    (j : ℕ) → 1 ≤ j → j < k → (lump : List ℕ) × IsLump files (label + j) lump

-- lump k is the first that isn't there: no entry has its number
pub record IsMissing (files : List Wad) (label k : ℕ) : Type 0 where
  pub from : 1 ≤ k
  pub to : k ≤ 10
  pub before : AreThereBelow files label k
  pub past : length (joined files) ≤ label + k

-- lump k is the first that isn't there: its entry has no lump
pub record IsOutsideFile (files : List Wad) (label k : ℕ) : Type 0 where
  pub from : 1 ≤ k
  pub to : k ≤ 10
  pub before : AreThereBelow files label k
  pub listed : label + k < length (joined files)
  pub refused : (lump : List ℕ) → ¬ IsLump files (label + k) lump

-- why there is no level at a label: the first lump after it that isn't there
abbrev pub RefusesLevelAt : List Wad → ℕ → LevelFault → Type 0
RefusesLevelAt files label NoLabel = ⊥
RefusesLevelAt files label (Missing k) = IsMissing files label k
RefusesLevelAt files label (Outside k) = IsOutsideFile files label k

-- why there is no level of a name: it has no winner, or there is none at the winner
abbrev pub RefusesLevel : List Wad → List ℕ → LevelFault → Type 0
RefusesLevel files name NoLabel = (g : ℕ) → slice_get (names files) g ≢ Some name
RefusesLevel files name fault = (label : ℕ) × Wins (names files) name label × RefusesLevelAt files label fault
