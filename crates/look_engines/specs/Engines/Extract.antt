-- The command `extract`: what it writes (ours), and what its run does.
use Rattle.std.specs.Prelude.{◌≡◌, ℕ, ◌<◌, ◌≤◌, List, [], ◌∷◌, length, Result}
use Rattle.le_rec.specs.Name.{query_of}
use Rattle.le_rec.specs.Sink.{SinkState}
use Rattle.level_starts.specs.LevelFile.{HoldsLumps}
use Rattle.line_io.specs.Writes.{Writes}
use Rattle.map_level.specs.Level.{Level}
use Rattle.map_level.specs.Opening.{AreLumps, IsLevel}
use Rattle.map_level.specs.declared.reading.Reading.TheVariants.{Signed}
use Rattle.wad_dir.specs.Packing.{NamedLump, packed}
use Rattle.wad_dir.specs.Wad.{Wad}
use Rattle.wad_dir.specs.declared.packer.TheConstants.{MAX_BYTES}
use Rattle.wad_dir.specs.declared.packer.PackFault.TheVariants as pack
use Rattle.look_engines.specs.Opening.{AreRead, RefusesName}
use Rattle.look_engines.specs.Runs.{Runs}
use Rattle.look_engines.specs.declared.fault.RunFault.{RunFault}
use Rattle.look_engines.specs.declared.fault.RunFault.TheVariants as fault

-- lumps under their names, in order
abbrev pub named_lumps : List (List ℕ) → List (List ℕ) → List NamedLump
named_lumps (name ∷ names) (bytes ∷ lumps) = record { name = name; bytes = bytes } ∷ named_lumps names lumps
named_lumps names lumps = []

-- the label with no bytes, and the ten lumps under their entries' names
abbrev pub extracted : List (List ℕ) → List (List ℕ) → List NamedLump
extracted names lumps = named_lumps names ([] ∷ lumps)

-- the level of the files' name, as lumps to pack
pub record HasLumps (bytes : List (List ℕ)) (asked : List ℕ) (found : List NamedLump) : Type 0 where
  pub files : List Wad
  pub level : Level
  pub lumps : List (List ℕ)
  pub read : AreRead bytes files
  pub opened : IsLevel files (query_of asked) Signed level
  pub stand : AreLumps files level.label lumps
  pub are : found ≡ extracted level.names lumps

-- the file that they are packed into, which holds them and isn't too large
pub record IsPacked (bytes : List (List ℕ)) (asked file : List ℕ) : Type 0 where
  pub named : List NamedLump
  pub has : HasLumps bytes asked named
  pub is : file ≡ packed named
  pub fits : length file ≤ MAX_BYTES
  pub holds : HoldsLumps file named

-- why there is none: it would be too large, or a growth was refused
abbrev pub RefusesExtract : List (List ℕ) → List ℕ → RunFault → Type 0
RefusesExtract bytes asked (fault.Pack pack.TooLarge) = (lumps : List NamedLump) × HasLumps bytes asked lumps × (MAX_BYTES < length (packed lumps))
RefusesExtract bytes asked (fault.Pack pack.Memory) = Unit {0}
RefusesExtract bytes asked fault = RefusesName bytes asked fault

-- a run over files of these bytes and a sink, by the sink's state
abbrev pub RunsExtract : {W : Type 0} → (W → SinkState) → List (List ℕ) → List ℕ → W → W → Result (Unit {0}) RunFault → Type 0
RunsExtract sink bytes asked out out' result =
    Runs (RefusesExtract bytes asked) (out' ≡ out) (IsPacked bytes asked) (λ file outcome. Writes (sink out) (sink out') file outcome) result
