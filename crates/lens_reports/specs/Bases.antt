-- The base files of a run (ours): each is read and has a directory, or the first that isn't read or has none is refused.
use Rattle.std.specs.Prelude.{◌≡◌, ℕ, ◌<◌, List, [], ◌∷◌, ◌++◌, length, map, slice_index_or, All}
use Rattle.le_rec.specs.Sink.{SinkState}
use Rattle.wad_dir.specs.Wad.{IsRead, Wad}
use Rattle.lens_reports.specs.Files.{IsKnownAs, Known}
use Rattle.lens_reports.specs.Run.{IsTold, RefusesFile, refusal_line}
use Rattle.lens_reports.specs.declared.bases.BaseFault.{BaseFault}
use Rattle.lens_reports.specs.declared.end.End.{End}
use Rattle.lens_reports.specs.declared.end.End.TheVariants as end
use Rattle.lens_reports.specs.declared.files.ReadFault.{ReadFault}
use Rattle.lens_reports.specs.declared.files.ReadFault.TheVariants.{Refused, Memory}
use Rattle.lens_reports.specs.declared.tell.ReportKind.TheVariants.{Survey}

-- bytes have a directory
abbrev pub HasWad : List ℕ → Type 0
HasWad bytes = (wad : Wad) × (wad.bytes ≡ bytes) × IsRead wad

-- these are the bytes of a file, and they have one
abbrev pub IsBase : Known → List ℕ → Type 0
IsBase known bytes = IsKnownAs known bytes × HasWad bytes

-- why a base file isn't taken: it is refused as one that is surveyed, or a growth was refused
abbrev pub RefusesBase : Known → ReadFault → Type 0
RefusesBase known (Refused refusal) = RefusesFile known Survey refusal
RefusesBase known Memory = Unit {0}

-- the path at a place
abbrev pub path_at : List (List ℕ) → ℕ → List ℕ
path_at paths place = slice_index_or paths place []

-- the bytes of the files under some paths, each of which has a directory
pub record AreHeld (known : ℕ → List ℕ → Known) (paths all : List (List ℕ)) : Type 0 where
  pub as_many : length all ≡ length paths
  pub each : (i : ℕ) → i < length paths → IsBase (known i (path_at paths i)) (slice_index_or all i [])

-- those of one more
pub record AddsHeld (known : Known) (old new : List (List ℕ)) : Type 0 where
  pub bytes : List ℕ
  pub are : IsBase known bytes
  pub is : new ≡ old ++ bytes ∷ []

-- one more directory
pub record AddsWad (bytes : List ℕ) (old new : List Wad) : Type 0 where
  pub wad : Wad
  pub of_bytes : wad.bytes ≡ bytes
  pub read : IsRead wad
  pub is : new ≡ old ++ wad ∷ []

-- the first base file that isn't taken
pub record IsRefusedAt (known : ℕ → List ℕ → Known) (paths : List (List ℕ)) (first : BaseFault) : Type 0 where
  pub within : first.place < length paths
  pub why : RefusesBase (known first.place (path_at paths first.place)) first.fault
  pub before : (i : ℕ) → i < first.place → (bytes : List ℕ) × IsBase (known i (path_at paths i)) bytes

-- it was reported, and the run ends with it
abbrev pub EndsAtBase : List ℕ → ReadFault → SinkState → SinkState → End → Type 0
EndsAtBase path (Refused refusal) errors errors' ended = IsTold errors errors' (refusal_line path refusal) × (ended ≡ end.Refused)
EndsAtBase path Memory errors errors' ended = (errors' ≡ errors) × (ended ≡ end.Memory)

-- the base files
pub record AreBases (known : ℕ → List ℕ → Known) (paths : List (List ℕ)) (base : List Wad) : Type 0 where
  pub held : AreHeld known paths (map (λ wad. wad.bytes) base)
  pub read : All IsRead base
