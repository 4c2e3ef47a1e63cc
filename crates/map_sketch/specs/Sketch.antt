-- What can be read of a level that isn't judged (ours).
use Rattle.std.specs.Prelude.{◌≡◌, ℕ, ◌+◌, ◌<◌, ◌^◌, List, [], length, codes}
use Rattle.wad_dir.specs.Entries.{names}
use Rattle.wad_dir.specs.Slice.{IsLump}
use Rattle.wad_dir.specs.Wad.{Wad}
use Rattle.map_sketch.specs.Own.{HasNone, IsOwnPlace, behavior}
use Rattle.map_sketch.specs.declared.records.Form.{Form}
use Rattle.map_sketch.specs.declared.records.Form.TheVariants.{Doom, Hexen}
use Rattle.map_sketch.specs.declared.sketch.Lump.{Lump}
use Rattle.map_sketch.specs.declared.sketch.Lump.TheVariants.{Lacking, Outside, Whole}
use Rattle.map_sketch.specs.declared.sketch.Sketch.{Sketch}

-- a level's lump of a name: none, one that isn't inside its file, or its bytes
abbrev pub IsLumpNamed : List Wad → ℕ → List ℕ → Lump → Type 0
IsLumpNamed files g name Lacking = HasNone (names files) g name
IsLumpNamed files g name (Outside k) = IsOwnPlace (names files) g name k × ((lump : List ℕ) → ¬ IsLump files (g + k) lump)
IsLumpNamed files g name (Whole k bytes) = IsOwnPlace (names files) g name k × IsLump files (g + k) bytes.now

-- its bytes, as far as they are there
abbrev pub bytes_of : Lump → List ℕ
bytes_of Lacking = []
bytes_of (Outside k) = []
bytes_of (Whole k bytes) = bytes.now

-- a level has scripts
pub record HasScripts (files : List Wad) (g : ℕ) : Type 0 where
  pub place : ℕ
  pub is : IsOwnPlace (names files) g behavior place

-- a level has Hexen's records exactly where it has scripts
abbrev pub IsForm : List Wad → ℕ → Form → Type 0
IsForm files g Doom = HasNone (names files) g behavior
IsForm files g Hexen = HasScripts files g

-- the form and the lumps of a level that are drawn
pub record IsSketch (files : List Wad) (g : ℕ) (sketch : Sketch) : Type 0 where
  pub form : IsForm files g sketch.form
  pub things : IsLumpNamed files g (codes "THINGS") sketch.things
  pub linedefs : IsLumpNamed files g (codes "LINEDEFS") sketch.linedefs
  pub sidedefs : IsLumpNamed files g (codes "SIDEDEFS") sketch.sidedefs
  pub vertexes : IsLumpNamed files g (codes "VERTEXES") sketch.vertexes
  pub sectors : IsLumpNamed files g (codes "SECTORS") sketch.sectors

-- a lump has fewer than 2 to the 31 bytes, since a size has 31 bits
abbrev pub IsShort : Lump → Type 0
IsShort lump = length (bytes_of lump) < 2 ^ 31

abbrev pub AreShort : Sketch → Type 0
AreShort sketch =
    IsShort sketch.things × IsShort sketch.linedefs × IsShort sketch.sidedefs × IsShort sketch.vertexes × IsShort sketch.sectors
