-- The command `demo`: what its run does (ours).
use Rattle.std.specs.Prelude.{◌≡◌, ◌≢◌, ℕ, List, Some, Result}
use Rattle.std.specs.List.{slice_get}
use Rattle.demo_lump.specs.Demo.{Demo, IsRead, RefusesDemo}
use Rattle.le_rec.specs.Name.{query_of}
use Rattle.le_rec.specs.Sink.{SinkState}
use Rattle.line_io.specs.Writes.{Writes}
use Rattle.wad_dir.specs.Entries.{names}
use Rattle.wad_dir.specs.Slice.{IsLump}
use Rattle.wad_dir.specs.Wad.{Wad}
use Rattle.wad_dir.specs.Winner.{Wins}
use Rattle.wad_dir.specs.declared.lump.LumpFault.TheVariants.{NoSuch, Outside}
use Rattle.look_engines.specs.Listing.{listing}
use Rattle.look_engines.specs.Opening.{AreRead, RefusesFiles}
use Rattle.look_engines.specs.Runs.{Runs}
use Rattle.look_engines.specs.declared.fault.RunFault.{RunFault}
use Rattle.look_engines.specs.declared.fault.RunFault.TheVariants as fault

-- entry g of the files has the name, and none after it
pub record IsNamed (bytes : List (List ℕ)) (asked : List ℕ) (files : List Wad) (g : ℕ) : Type 0 where
  pub read : AreRead bytes files
  pub wins : Wins (names files) (query_of asked) g

-- the bytes of the lump of the files' name
pub record IsNamedLump (bytes : List (List ℕ)) (asked lump : List ℕ) : Type 0 where
  pub files : List Wad
  pub g : ℕ
  pub named : IsNamed bytes asked files g
  pub stands : IsLump files g lump

-- the demo in the lump of the files' name
abbrev pub IsNamedDemo : List (List ℕ) → List ℕ → Demo → Type 0
IsNamedDemo bytes asked demo = (lump : List ℕ) × IsNamedLump bytes asked lump × IsRead lump demo

-- why there is none: the files aren't read, no entry has the name, its lump isn't inside its file, or that is no demo
abbrev pub RefusesNamedDemo : List (List ℕ) → List ℕ → RunFault → Type 0
RefusesNamedDemo bytes asked (fault.Lump NoSuch) =
    (files : List Wad) × AreRead bytes files × ((g : ℕ) → slice_get (names files) g ≢ Some (query_of asked))
RefusesNamedDemo bytes asked (fault.Lump Outside) =
    (files : List Wad) × (g : ℕ) × IsNamed bytes asked files g × ((lump : List ℕ) → ¬ IsLump files g lump)
RefusesNamedDemo bytes asked (fault.Demo why) = (lump : List ℕ) × IsNamedLump bytes asked lump × RefusesDemo lump why
RefusesNamedDemo bytes asked fault = RefusesFiles bytes fault

-- a run over files of these bytes and a sink, by the sink's state
abbrev pub RunsDemo : {W : Type 0} → (W → SinkState) → List (List ℕ) → List ℕ → W → W → Result (Unit {0}) RunFault → Type 0
RunsDemo sink bytes asked out out' result =
    Runs (RefusesNamedDemo bytes asked) (out' ≡ out) (IsNamedDemo bytes asked)
    (λ demo outcome. Writes (sink out) (sink out') (listing demo) outcome) result
