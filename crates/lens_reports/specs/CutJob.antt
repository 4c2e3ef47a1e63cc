-- What the run of `cut` does (ours): a level of one file is written, or the reason why not is reported.
use Rattle.std.specs.Prelude.{◌≡◌, ◌≢◌, ◌⊎◌, ℕ, ◌≤◌, List, [], ◌∷◌, ◌++◌, codes, length, map, All, Option, Some, Result, Ok, Err}
use Rattle.std.specs.List.{slice_get}
use Rattle.std.specs.Io.KnownBytes.{Keeps}
use Rattle.le_rec.specs.Name.{query_of}
use Rattle.le_rec.specs.Sink.{SinkState}
use Rattle.line_io.specs.declared.input.TheConstants.{MAX_READ}
use Rattle.lens_engines.specs.Cut.{IsCut, RefusesCut, cut_fault_text}
use Rattle.lens_texts.specs.ShownPath.{shown_path}
use Rattle.lens_engines.specs.declared.cut.CutFault.{CutFault}
use Rattle.lens_engines.specs.declared.cut.CutFault.TheVariants as fault
use Rattle.lens_engines.specs.declared.cut.Uncut.{Uncut}
use Rattle.lens_engines.specs.declared.cut.Uncut.TheVariants as uncut
use Rattle.lens_engines.specs.declared.object.FileRefusal.{FileRefusal}
use Rattle.lens_engines.specs.declared.verdict.Verdict.{Verdict}
use Rattle.lens_engines.specs.declared.verdict.Verdict.TheVariants.{Clean, Faulty}
use Rattle.wad_dir.specs.Entries.{names}
use Rattle.wad_dir.specs.Refusal.{RefusesWad}
use Rattle.wad_dir.specs.Wad.{IsRead, Wad}
use Rattle.wad_dir.specs.Winner.{Wins}
use Rattle.wad_dir.specs.declared.wad.WadFault.{WadFault}
use Rattle.lens_reports.specs.Files.{RefusesRead}
use Rattle.lens_reports.specs.Job.{TellsRest, WantsMemory}
use Rattle.lens_reports.specs.Run.{IsTold, refusal_line}
use Rattle.lens_reports.specs.declared.cut.CutAsked.{CutAsked}
use Rattle.lens_reports.specs.declared.cut.CutAsked.TheVariants as asked
use Rattle.lens_reports.specs.declared.end.End.{End}
use Rattle.lens_reports.specs.declared.end.End.TheVariants as end
use Rattle.lens_reports.specs.declared.files.ReadFault.TheVariants.{Refused}
use Rattle.lens_reports.specs.declared.output.Output.{Output}

-- the line on standard error of a level that isn't cut out: `wadlens: PATH: TEXT`
abbrev pub cut_fault_line : List ℕ → CutFault → List ℕ
cut_fault_line path fault = codes "wadlens: " ++ (shown_path path ++ (codes ": " ++ cut_fault_text fault))

-- a level that lacks a lump is faulty; one that can't be cut out for another reason is refused
abbrev pub uncut_end : Uncut → Result Verdict End
uncut_end (uncut.Incomplete k) = Ok Faulty
uncut_end (uncut.Outside name) = Ok Faulty
uncut_end uncut.NoEndMap = Err end.Refused
uncut_end uncut.TooLarge = Err end.Refused

-- how the run ends
abbrev pub cut_fault_end : CutFault → Result Verdict End
cut_fault_end (fault.NoWad why) = Err end.Refused
cut_fault_end (fault.NoLevel entry) = Err end.Refused
cut_fault_end (fault.Level label why) = uncut_end why
cut_fault_end fault.Memory = Err end.Memory
cut_fault_end fault.Write = Err end.Refused

-- a fault of the file or of its level; a lack of memory isn't one, and isn't reported
abbrev pub IsOfFile : CutFault → Type 0
IsOfFile fault.Memory = ⊥
IsOfFile _ = Unit {0}

-- the level was cut out, and its file written
pub record CutsOut {W : Type 0} (bytes : List ℕ) (entry : ℕ) (contents : W → Option (List ℕ)) (old new : Output W) (errors errors' : SinkState) (result : Result Verdict End) : Type 0 where
  pub text : List ℕ
  pub is : IsCut bytes entry text
  pub silent : errors' ≡ errors
  pub rest : TellsRest contents text Clean old new result

-- the level wasn't cut out, and this was reported
pub record CutsNone {W : Type 0} (bytes : List ℕ) (entry : ℕ) (path : List ℕ) (old new : Output W) (errors errors' : SinkState) (result : Result Verdict End) : Type 0 where
  pub fault : CutFault
  pub of_file : IsOfFile fault
  pub why : RefusesCut bytes entry fault
  pub told : IsTold errors errors' (cut_fault_line path fault)
  pub untouched : new ≡ old
  pub ended : result ≡ cut_fault_end fault

-- or there was no memory
abbrev pub CutsBytes : {W : Type 0} → List ℕ → ℕ → List ℕ → (W → Option (List ℕ)) → Output W → Output W → SinkState → SinkState → Result Verdict End → Type 0
CutsBytes bytes entry path contents old new errors errors' result =
    WantsMemory old new errors errors' result ⊎ CutsNone bytes entry path old new errors errors' result
    ⊎ CutsOut bytes entry contents old new errors errors' result

-- that no entry of a file has a name: `wadlens: PATH: NAME: no level of this name`
abbrev pub no_name_line : List ℕ → List ℕ → List ℕ
no_name_line path name = codes "wadlens: " ++ (shown_path path ++ (codes ": " ++ (shown_path name ++ codes ": no level of this name\n")))

-- no entry of the file has the name, and this was reported
pub record CutsNoName {W : Type 0} (bytes name path : List ℕ) (old new : Output W) (errors errors' : SinkState) (result : Result Verdict End) : Type 0 where
  pub files : List Wad
  pub of_bytes : map (λ file. file.bytes) files ≡ bytes ∷ []
  pub read : All IsRead files
  pub none : (g : ℕ) → slice_get (names files) g ≢ Some (query_of name)
  pub told : IsTold errors errors' (no_name_line path name)
  pub untouched : new ≡ old
  pub ended : result ≡ Err end.Refused

-- an entry of the file wins the name
pub record CutsWinner {W : Type 0} (bytes name path : List ℕ) (contents : W → Option (List ℕ)) (old new : Output W) (errors errors' : SinkState) (result : Result Verdict End) : Type 0 where
  pub files : List Wad
  pub of_bytes : map (λ file. file.bytes) files ≡ bytes ∷ []
  pub read : All IsRead files
  pub entry : ℕ
  pub wins : Wins (names files) (query_of name) entry
  pub cuts : CutsBytes bytes entry path contents old new errors errors' result

-- the bytes have no directory, and this was reported
pub record CutsNoDirectory {W : Type 0} (bytes path : List ℕ) (old new : Output W) (errors errors' : SinkState) (result : Result Verdict End) : Type 0 where
  pub why : WadFault
  pub refuses : RefusesWad bytes why
  pub told : IsTold errors errors' (cut_fault_line path (fault.NoWad why))
  pub untouched : new ≡ old
  pub ended : result ≡ Err end.Refused

-- one of the three; or there was no memory
abbrev pub CutsNamed : {W : Type 0} → List ℕ → List ℕ → List ℕ → (W → Option (List ℕ)) → Output W → Output W → SinkState → SinkState → Result Verdict End → Type 0
CutsNamed bytes name path contents old new errors errors' result =
    WantsMemory old new errors errors' result ⊎ CutsNoDirectory bytes path old new errors errors' result
    ⊎ CutsNoName bytes name path old new errors errors' result ⊎ CutsWinner bytes name path contents old new errors errors' result

-- the level that is asked for: at an entry, or the winner of a name
abbrev pub CutsAsked : {W : Type 0} → CutAsked → List ℕ → List ℕ → (W → Option (List ℕ)) → Output W → Output W → SinkState → SinkState → Result Verdict End → Type 0
CutsAsked (asked.Entry entry) bytes path contents old new errors errors' result = CutsBytes bytes entry path contents old new errors errors' result
CutsAsked (asked.Named name) bytes path contents old new errors errors' result = CutsNamed bytes name.now path contents old new errors errors' result

-- the file wasn't read, and this was reported
pub record CutsNoFile {W : Type 0} (held : Option (List ℕ)) (path : List ℕ) (old new : Output W) (errors errors' : SinkState) (result : Result Verdict End) : Type 0 where
  pub refusal : FileRefusal
  pub why : RefusesRead held (Refused refusal)
  pub told : IsTold errors errors' (refusal_line path refusal)
  pub untouched : new ≡ old
  pub ended : result ≡ Err end.Refused

-- the file under the path was read
pub record CutsFile {W : Type 0} (held : Option (List ℕ)) (asked : CutAsked) (path : List ℕ) (contents : W → Option (List ℕ)) (old new : Output W) (errors errors' : SinkState) (result : Result Verdict End) : Type 0 where
  pub bytes : List ℕ
  pub are : Keeps held (Some bytes)
  pub few : length bytes ≤ MAX_READ
  pub cuts : CutsAsked asked bytes path contents old new errors errors' result

abbrev pub CutsPath : {W : Type 0} → Option (List ℕ) → CutAsked → List ℕ → (W → Option (List ℕ)) → Output W → Output W → SinkState → SinkState → Result Verdict End → Type 0
CutsPath held asked path contents old new errors errors' result =
    WantsMemory old new errors errors' result ⊎ CutsNoFile held path old new errors errors' result
    ⊎ CutsFile held asked path contents old new errors errors' result
