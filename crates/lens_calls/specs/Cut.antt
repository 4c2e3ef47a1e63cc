-- A level cut out of a file in memory (ours).
use Rattle.std.specs.Prelude.{◌≡◌, ◌≢◌, ◌⊎◌, ℕ, ◌<◌, ◌≤◌, List, [], ◌∷◌, length, map, All, Some}
use Rattle.std.specs.List.{slice_get}
use Rattle.std.specs.Io.KnownBytes.{Appends}
use Rattle.le_rec.specs.Name.{query_of}
use Rattle.le_rec.specs.Sink.{SinkState}
use Rattle.lens_calls.specs.Why.{TellsWhy}
use Rattle.lens_engines.specs.Cut.{IsCut, RefusesCut}
use Rattle.lens_engines.specs.declared.cut.CutFault.{CutFault}
use Rattle.lens_engines.specs.declared.cut.CutFault.TheVariants as fault
use Rattle.lens_engines.specs.declared.cut.Uncut.{Uncut}
use Rattle.lens_engines.specs.declared.cut.Uncut.TheVariants as uncut
use Rattle.lens_engines.specs.declared.object.FileRefusal.TheVariants as refusal
use Rattle.lens_engines.specs.declared.verdict.Verdict.{Verdict}
use Rattle.lens_engines.specs.declared.verdict.Verdict.TheVariants.{Clean, Unjudged, Faulty}
use Rattle.lens_reports.specs.CutJob.{IsOfFile, cut_fault_line, no_name_line}
use Rattle.lens_reports.specs.Run.{refusal_line}
use Rattle.lens_reports.specs.declared.cut.CutAsked.{CutAsked}
use Rattle.lens_reports.specs.declared.cut.CutAsked.TheVariants as asked
use Rattle.line_io.specs.declared.input.TheConstants.{MAX_READ}
use Rattle.wad_dir.specs.Entries.{names}
use Rattle.wad_dir.specs.Refusal.{RefusesWad}
use Rattle.wad_dir.specs.Wad.{IsRead, Wad}
use Rattle.wad_dir.specs.Winner.{Wins}
use Rattle.wad_dir.specs.declared.wad.WadFault.{WadFault}

-- a level that lacks a lump is faulty; one that can't be cut out for another reason isn't judged
abbrev pub verdict_of_uncut : Uncut → Verdict
verdict_of_uncut (uncut.Incomplete k) = Faulty
verdict_of_uncut (uncut.Outside name) = Faulty
verdict_of_uncut uncut.NoEndMap = Unjudged
verdict_of_uncut uncut.TooLarge = Unjudged

-- by that reason; with any other fault nothing is judged
abbrev pub verdict_of_cut : CutFault → Verdict
verdict_of_cut (fault.Level label why) = verdict_of_uncut why
verdict_of_cut _ = Unjudged

-- the level at an entry was cut out
pub record CutsOut (entry : ℕ) (bytes : List ℕ) (out out' errors errors' : SinkState) (verdict : Verdict) : Type 0 where
  pub text : List ℕ
  pub is : IsCut bytes entry text
  pub took : Appends out.taken out'.taken text
  pub silent : errors' ≡ errors
  pub says : verdict ≡ Clean

-- the level wasn't cut out, and the reason was reported
pub record CutsNone (entry : ℕ) (path bytes : List ℕ) (out out' errors errors' : SinkState) (verdict : Verdict) : Type 0 where
  pub why : CutFault
  pub of_file : IsOfFile why
  pub holds : RefusesCut bytes entry why
  pub untouched : out' ≡ out
  pub message : Appends errors.taken errors'.taken (cut_fault_line path why)
  pub says : verdict ≡ verdict_of_cut why

-- one of the two
abbrev pub CutsBytes : ℕ → List ℕ → List ℕ → SinkState → SinkState → SinkState → SinkState → Verdict → Type 0
CutsBytes entry path bytes out out' errors errors' verdict =
    CutsOut entry bytes out out' errors errors' verdict ⊎ CutsNone entry path bytes out out' errors errors' verdict

-- no entry of the file has the name, and this was reported
pub record CutsNoName (name path bytes : List ℕ) (out out' errors errors' : SinkState) (verdict : Verdict) : Type 0 where
  pub files : List Wad
  pub of_bytes : map (λ file. file.bytes) files ≡ bytes ∷ []
  pub read : All IsRead files
  pub none : (g : ℕ) → slice_get (names files) g ≢ Some (query_of name)
  pub tells : TellsWhy (no_name_line path name) Unjudged out out' errors errors' verdict

-- an entry of the file wins the name
pub record CutsWinner (name path bytes : List ℕ) (out out' errors errors' : SinkState) (verdict : Verdict) : Type 0 where
  pub files : List Wad
  pub of_bytes : map (λ file. file.bytes) files ≡ bytes ∷ []
  pub read : All IsRead files
  pub entry : ℕ
  pub wins : Wins (names files) (query_of name) entry
  pub cuts : CutsBytes entry path bytes out out' errors errors' verdict

-- the bytes have no directory, and this was reported
pub record CutsNoDirectory (path bytes : List ℕ) (out out' errors errors' : SinkState) (verdict : Verdict) : Type 0 where
  pub why : WadFault
  pub refuses : RefusesWad bytes why
  pub tells : TellsWhy (cut_fault_line path (fault.NoWad why)) Unjudged out out' errors errors' verdict

-- one of the three
abbrev pub CutsNamed : List ℕ → List ℕ → List ℕ → SinkState → SinkState → SinkState → SinkState → Verdict → Type 0
CutsNamed name path bytes out out' errors errors' verdict =
    CutsNoDirectory path bytes out out' errors errors' verdict ⊎ CutsNoName name path bytes out out' errors errors' verdict
    ⊎ CutsWinner name path bytes out out' errors errors' verdict

-- the level that is asked for: at an entry, or the winner of a name
abbrev pub CutsAsked : CutAsked → List ℕ → List ℕ → SinkState → SinkState → SinkState → SinkState → Verdict → Type 0
CutsAsked (asked.Entry entry) path bytes out out' errors errors' verdict = CutsBytes entry path bytes out out' errors errors' verdict
CutsAsked (asked.Named name) path bytes out out' errors errors' verdict = CutsNamed name.now path bytes out out' errors errors' verdict

-- the file was cut
pub record CutsRead (asked : CutAsked) (path bytes : List ℕ) (out out' errors errors' : SinkState) (verdict : Verdict) : Type 0 where
  pub few : length bytes ≤ MAX_READ
  pub cuts : CutsAsked asked path bytes out out' errors errors' verdict

-- the file is larger than what is read, and this was reported
pub record CutsTooLarge (path bytes : List ℕ) (out out' errors errors' : SinkState) (verdict : Verdict) : Type 0 where
  pub large : MAX_READ < length bytes
  pub tells : TellsWhy (refusal_line path refusal.TooLarge) Unjudged out out' errors errors' verdict

-- one of the two
abbrev pub CutsFile : CutAsked → List ℕ → List ℕ → SinkState → SinkState → SinkState → SinkState → Verdict → Type 0
CutsFile asked path bytes out out' errors errors' verdict =
    CutsTooLarge path bytes out out' errors errors' verdict ⊎ CutsRead asked path bytes out out' errors errors' verdict
