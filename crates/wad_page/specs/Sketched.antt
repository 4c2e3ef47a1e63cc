-- What can be read of a level, as numbers of 32 bits for a host (ours).
use Rattle.std.specs.Prelude.{◌≡◌, ℕ, ◌<◌, ◌≤◌, ℤ, List, length}
use Rattle.std.specs.List.{flat_map}
use Rattle.le_rec.specs.Number.{signed_bytes32}
use Rattle.map_sketch.specs.Numbers.{Sketches}
use Rattle.wad_dir.specs.Entries.{joined}
use Rattle.wad_dir.specs.Refusal.{RefusesWad}
use Rattle.wad_dir.specs.Wad.{Wad}
use Rattle.wad_page.specs.Draw.{IsFileOf}
use Rattle.wad_page.specs.declared.sketch.SketchFault.{SketchFault}
use Rattle.wad_page.specs.declared.sketch.SketchFault.TheVariants.{NoWad, NoEntry, Memory}

-- the numbers of the level whose label is an entry of some files, each as four bytes, the lowest first
pub record SketchesEntry (files : List Wad) (entry : ℕ) (list : List ℕ) : Type 0 where
  pub numbers : List ℤ
  pub there : entry < length (joined files)
  pub sketches : Sketches files entry numbers
  pub is : list ≡ flat_map signed_bytes32 numbers

-- those of an entry of the file of these bytes
pub record SketchesFile (bytes : List ℕ) (entry : ℕ) (list : List ℕ) : Type 0 where
  pub files : List Wad
  pub file : IsFileOf bytes files
  pub sketches : SketchesEntry files entry list

-- why nothing is told of an entry of some files
abbrev pub RefusesEntry : List Wad → ℕ → SketchFault → Type 0
RefusesEntry files entry (NoWad why) = ⊥
RefusesEntry files entry NoEntry = length (joined files) ≤ entry
RefusesEntry files entry Memory = Unit {0}

pub record RefusesEntryIn (bytes : List ℕ) (entry : ℕ) (fault : SketchFault) : Type 0 where
  pub files : List Wad
  pub file : IsFileOf bytes files
  pub refuses : RefusesEntry files entry fault

-- why nothing is told of an entry of the file of these bytes
abbrev pub RefusesSketch : List ℕ → ℕ → SketchFault → Type 0
RefusesSketch bytes entry (NoWad why) = RefusesWad bytes why
RefusesSketch bytes entry Memory = Unit {0}
RefusesSketch bytes entry fault = RefusesEntryIn bytes entry fault
