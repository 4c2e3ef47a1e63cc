-- How far the report on files came, if an atlas isn't whole (ours).
use Rattle.std.specs.Prelude.{◌≡◌, ◌⊎◌, ℕ, true, List, Option, Ok, Err}
use Rattle.le_rec.specs.Sink.{SinkState}
use Rattle.atlas_page.specs.declared.levels.Origin.{Origin}
use Rattle.atlas_page.specs.declared.row.Row.{Row}
use Rattle.wad_dir.specs.Refusal.{RefusesWad}
use Rattle.wad_dir.specs.declared.wad.WadFault.{WadFault}
use Rattle.lens_engines.specs.Survey.{SurveysFile}
use Rattle.lens_engines.specs.declared.judging.Judging.{Judging}
use Rattle.lens_engines.specs.declared.object.FileRefusal.{FileRefusal}
use Rattle.lens_engines.specs.declared.verdict.LevelsFault.TheVariants as engine
use Rattle.lens_engines.specs.declared.verdict.Verdict.{Verdict}
use Rattle.lens_reports.specs.Run.{StopsPath, StopsRefusal, TellsPath, ToldBefore, ToldTo, WritesRefusal}
use Rattle.lens_reports.specs.declared.tell.Request.{Request}
use Rattle.lens_reports.specs.declared.tell.Stop.{Stop}
use Rattle.lens_reports.specs.declared.tell.Stop.TheVariants as stop
use Rattle.lens_reports.specs.declared.tell.ReportSum.{ReportSum}
use Rattle.lens_reports.specs.declared.tell.ReportKind.TheVariants.{Survey}
use Rattle.lens_reports.specs.Files.{at_path, stored}
use Rattle.lens_commands.specs.Folder.{IsBegun, IsNotErrors, Kept}
use Rattle.lens_commands.specs.Gathered.{AddsSome}
use Rattle.lens_commands.specs.declared.atlas.fault.AtlasFault.{AtlasFault}
use Rattle.lens_commands.specs.declared.atlas.fault.AtlasFault.TheVariants as fault
use Rattle.lens_commands.specs.declared.atlas.fault.FileFault.{FileFault}
use Rattle.lens_commands.specs.declared.atlas.fault.FileFault.TheVariants as levels
use Rattle.lens_commands.specs.declared.atlas.fault.KeepFault.{KeepFault}
use Rattle.lens_commands.specs.declared.atlas.fault.KeepFault.TheVariants as file
use Rattle.map_picture.specs.declared.draw.View.{View}

-- why an atlas isn't whole, if the report on its files stopped
abbrev pub stop_fault : Stop → AtlasFault
stop_fault stop.Memory = fault.Memory
stop_fault (stop.Output found) = fault.Write
stop_fault stop.Errors = fault.Errors

-- the report on the file under a path stopped
pub record StopsWithin (held : Option (List ℕ)) (asked : Request) (path : List ℕ) (out out' errors errors' : SinkState) (why : AtlasFault) : Type 0 where
  pub stop : Stop
  pub stops : StopsPath (at_path held) asked path out out' errors errors' stop
  pub is : why ≡ stop_fault stop

-- that report was whole, and then a file of the folder failed, or there was no memory for what the page keeps
pub record StopsBehind (held : Option (List ℕ)) (asked : Request) (path : List ℕ) (out out' errors errors' : SinkState) (why : AtlasFault) : Type 0 where
  pub tally : ReportSum
  pub told : TellsPath (at_path held) asked path out out' errors errors' tally
  pub fault : IsNotErrors why

-- one of the two
abbrev pub LeavesPath : Option (List ℕ) → Request → List ℕ → SinkState → SinkState → SinkState → SinkState → AtlasFault → Type 0
LeavesPath held asked path out out' errors errors' why =
    StopsBehind held asked path out out' errors errors' why ⊎ StopsWithin held asked path out out' errors errors' why

-- nothing was written of a file's levels, for want of memory
pub record WantsLevels (before after : SinkState) (why : KeepFault) : Type 0 where
  pub untouched : after ≡ before
  pub is : why ≡ file.Memory

-- a write failed within the survey of them
pub record StopsInSurvey (path bytes : List ℕ) (judging : Judging) (before after : SinkState) (why : KeepFault) : Type 0 where
  pub found : Verdict
  pub told : SurveysFile path bytes judging before after (Err (engine.Write found))
  pub failed : after.failed ≡ true
  pub is : why ≡ file.Write

-- it was whole, and a picture isn't
pub record StopsBehindSurvey (path bytes : List ℕ) (judging : Judging) (before after : SinkState) : Type 0 where
  pub verdict : Verdict
  pub told : SurveysFile path bytes judging before after (Ok verdict)

-- one of the three
abbrev pub LeavesSurvey : List ℕ → List ℕ → Judging → SinkState → SinkState → KeepFault → Type 0
LeavesSurvey path bytes judging before after why =
    WantsLevels before after why ⊎ StopsInSurvey path bytes judging before after why ⊎ StopsBehindSurvey path bytes judging before after

-- the bytes have no directory, and nothing was added
pub record RefusesLevels {W : Type 0} (bytes : List ℕ) (survey survey' : W) (old new : List Row) (files files' : Option (List Kept)) (why : WadFault) : Type 0 where
  pub refused : RefusesWad bytes why
  pub untouched : survey' ≡ survey
  pub rowless : new ≡ old
  pub kept : files' ≡ files

-- a file of the folder isn't whole: a front of the pictures was added, and the survey came so far
pub record StopsLevels (drawn : View) (origin : Origin) (bytes : List ℕ) (before after : SinkState) (files files' : Option (List Kept)) (why : KeepFault) : Type 0 where
  pub front : AddsSome drawn origin bytes files files'
  pub left : LeavesSurvey origin.path.now bytes origin.judging before after why

-- why the levels of a file aren't all in an atlas
abbrev pub LeavesLevels : {W : Type 0} → (W → SinkState) → View → Origin → List ℕ → W → W → List Row → List Row → Option (List Kept) → Option (List Kept) → FileFault → Type 0
LeavesLevels state drawn origin bytes survey survey' old new files files' (levels.NoWad why) = RefusesLevels bytes survey survey' old new files files' why
LeavesLevels state drawn origin bytes survey survey' old new files files' (levels.Keep why) =
    StopsLevels drawn origin bytes (state survey) (state survey') files files' why

-- the report that a file is refused stopped
pub record StopsRefused (path : List ℕ) (refusal : FileRefusal) (out out' errors errors' : SinkState) (why : AtlasFault) : Type 0 where
  pub stop : Stop
  pub stops : StopsRefusal Survey path refusal out out' errors errors' stop
  pub is : why ≡ stop_fault stop

-- that report was whole, and there was no memory to keep it for the page
pub record WantsRefused (path : List ℕ) (refusal : FileRefusal) (out out' errors errors' : SinkState) (why : AtlasFault) : Type 0 where
  pub tally : ReportSum
  pub told : WritesRefusal Survey path refusal out out' errors errors' tally
  pub is : why ≡ fault.Memory

-- one of the two
abbrev pub LeavesRefused : List ℕ → FileRefusal → SinkState → SinkState → SinkState → SinkState → AtlasFault → Type 0
LeavesRefused path refusal out out' errors errors' why =
    WantsRefused path refusal out out' errors errors' why ⊎ StopsRefused path refusal out out' errors errors' why

-- the files before one were reported on, and that one as far as the run came
pub record StopsAtFile (held : List ℕ → Option (List ℕ)) (asked : Request) (paths : List (List ℕ)) (out errors out' errors' : SinkState) (why : AtlasFault) : Type 0 where
  pub path : List ℕ
  pub out_before : SinkState
  pub errors_before : SinkState
  pub tally : ReportSum
  pub told : ToldBefore (stored held) asked paths out errors path out_before errors_before tally
  pub left : LeavesPath (held path) asked path out_before out' errors_before errors' why

-- so far the report on files came, in a survey that was begun
pub record SurveysSome (held : List ℕ → Option (List ℕ)) (asked : Request) (paths : List (List ℕ)) (files : Option (List Kept)) (errors errors' : SinkState) (why : AtlasFault) : Type 0 where
  pub before : SinkState
  pub begun : IsBegun files before
  pub after : SinkState
  pub stops : StopsAtFile held asked paths before errors after errors' why

-- it was whole, and then a file of the folder failed
pub record SurveysAll (held : List ℕ → Option (List ℕ)) (asked : Request) (paths : List (List ℕ)) (files : Option (List Kept)) (errors errors' : SinkState) (why : AtlasFault) : Type 0 where
  pub before : SinkState
  pub begun : IsBegun files before
  pub after : SinkState
  pub tally : ReportSum
  pub told : ToldTo (stored held) asked before errors paths after errors' tally
  pub fault : IsNotErrors why

-- no survey was begun, nor anything else
pub record LacksSurvey (old new : Option (List Kept)) (errors errors' : SinkState) (why : AtlasFault) : Type 0 where
  pub untouched : new ≡ old
  pub silent : errors' ≡ errors
  pub fault : IsNotErrors why

-- the report on the files on standard error: nothing if no survey was begun
abbrev pub TellsUntil : (List ℕ → Option (List ℕ)) → Request → List (List ℕ) → Option (List Kept) → Option (List Kept) → SinkState → SinkState → AtlasFault → Type 0
TellsUntil held asked paths old new errors errors' why =
    LacksSurvey old new errors errors' why ⊎ SurveysSome held asked paths old errors errors' why ⊎ SurveysAll held asked paths old errors errors' why
