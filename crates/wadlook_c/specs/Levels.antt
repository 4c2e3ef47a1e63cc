-- What is told of a file's levels (ours).
use Rattle.std.specs.Prelude.{◌≡◌, ◌⊎◌, ℕ, ◌<◌, ◌≤◌, List, [], ◌∷◌, length, set, Some, IsSomeAnd}
use Rattle.std.specs.List.{slice_get}
use Rattle.le_rec.specs.Name.{padded}
use Rattle.level_starts.specs.Format.{IsFormat}
use Rattle.level_starts.specs.Starts.{AreStartsFrom, LevelStartsAt}
use Rattle.level_starts.specs.declared.format.Format.{Format}
use Rattle.level_starts.specs.declared.format.Format.TheVariants.{Udmf, Incomplete, Hexen, Outside, Extended, Doom}
use Rattle.wad_dir.specs.Entries.{names}
use Rattle.wad_dir.specs.Wad.{Wad}
use Rattle.wadlook_c.specs.declared.levels.WadlookLevel.{WadlookLevel}

-- the number of a format
abbrev pub format_code : Format → ℕ
format_code Doom = 0
format_code Hexen = 1
format_code Udmf = 2
format_code (Extended tag) = 3
format_code (Incomplete k) = 4
format_code (Outside k) = 5

-- the place of the lump that a level lacks, 0 where it lacks none
abbrev pub lump_of : Format → ℕ
lump_of (Incomplete k) = k
lump_of (Outside k) = k
lump_of _ = 0

-- how extended nodes begin
abbrev pub tag_of : Format → List ℕ
tag_of (Extended tag) = tag
tag_of _ = 0 ∷ 0 ∷ 0 ∷ 0 ∷ []

-- the level that starts at an entry: its label's name with NULs behind it, and its format
pub record TellsLevel (files : List Wad) (g : ℕ) (told : WadlookLevel) : Type 0 where
  pub entry : told.entry ≡ g
  pub label : List ℕ
  pub listed : slice_get (names files) g ≡ Some label
  pub name : told.name ≡ padded label
  pub format : Format
  pub is : IsFormat files g format
  pub number : told.format ≡ format_code format
  pub lump : told.lump ≡ lump_of format
  pub tag : told.tag ≡ tag_of format

-- as many levels as there is room for stand in front, in the order of their entries, of all that start in the files
pub record TellsLevels (files : List Wad) (told : List WadlookLevel) (count : ℕ) : Type 0 where
  pub starts : List ℕ
  pub all : AreStartsFrom (names files) 0 starts
  pub many : count ≡ length starts
  pub front : (k : ℕ) → k < length starts → k < length told
      → IsSomeAnd (slice_get starts k) (λ g. IsSomeAnd (slice_get told k) (TellsLevel files g))

-- none starts at an entry, and nothing was written
pub record PutsNone (files : List Wad) (g : ℕ) (old new : List WadlookLevel) (count : ℕ) : Type 0 where
  pub none : ¬ LevelStartsAt (names files) g
  pub nothing : count ≡ 0
  pub untouched : new ≡ old

-- one starts there, and stands at the place if there is room
pub record PutsOne (files : List Wad) (g place : ℕ) (old new : List WadlookLevel) (count : ℕ) : Type 0 where
  pub starts : LevelStartsAt (names files) g
  pub one : count ≡ 1
  pub level : WadlookLevel
  pub tells : TellsLevel files g level
  pub room : place < length old → new ≡ set old place level
  pub full : length old ≤ place → new ≡ old

-- one of the two
abbrev pub PutsStart : List Wad → ℕ → ℕ → List WadlookLevel → List WadlookLevel → ℕ → Type 0
PutsStart files g place old new count = PutsNone files g old new count ⊎ PutsOne files g place old new count
