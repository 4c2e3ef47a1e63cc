-- What a run of a job does (ours): the files of the words and of the list are reported on, and the run ends as that ended.
use Rattle.std.specs.Prelude.{◌≡◌, ◌⊎◌, ℕ, ◌≤◌, Bool, true, List, [], ◌++◌, codes, length, map, Option, None, Some, Result, Ok, Err, if◌then◌else◌}
use Rattle.std.specs.Io.KnownBytes.{Appends, Keeps}
use Rattle.std.specs.Str.{bytes_eq}
use Rattle.le_rec.specs.Sink.{SinkState}
use Rattle.line_io.specs.declared.input.TheConstants.{MAX_READ}
use Rattle.line_io.specs.Writes.{TakesFront, Writes}
use Rattle.line_io.specs.declared.fault.IoFault.{IoFault}
use Rattle.wad_dir.specs.Wad.{Wad}
use Rattle.lens_engines.specs.Rules.{IsOver}
use Rattle.lens_engines.specs.TotalsObject.{totals_text}
use Rattle.lens_engines.specs.Unlisted.{is_none, unlisted_note}
use Rattle.lens_engines.specs.declared.object.FileRefusal.{FileRefusal}
use Rattle.lens_engines.specs.declared.judging.Warnings.{Warnings}
use Rattle.lens_engines.specs.declared.totals.Totals.{Totals}
use Rattle.lens_engines.specs.declared.unlisted.Unlisted.{Unlisted}
use Rattle.lens_engines.specs.declared.verdict.Verdict.{Verdict}
use Rattle.lens_reports.specs.Bases.{AreBases, EndsAtBase, IsRefusedAt, path_at}
use Rattle.lens_reports.specs.Files.{RefusesRead, stored}
use Rattle.lens_reports.specs.Output.{held_back, is_closed, output_state}
use Rattle.lens_reports.specs.Paths.{listed_paths}
use Rattle.lens_reports.specs.Run.{IsTold, OnErrors, StopsAt, ToldTo, refusal_line}
use Rattle.lens_reports.specs.declared.bases.BaseFault.{BaseFault}
use Rattle.lens_reports.specs.declared.end.End.{End}
use Rattle.lens_reports.specs.declared.end.End.TheVariants as end
use Rattle.lens_reports.specs.declared.files.ReadFault.{ReadFault}
use Rattle.lens_reports.specs.declared.files.ReadFault.TheVariants.{Refused}
use Rattle.lens_reports.specs.declared.output.Output.{Output}
use Rattle.lens_reports.specs.declared.tell.Request.{Request}
use Rattle.lens_reports.specs.declared.tell.Stop.{Stop}
use Rattle.lens_reports.specs.declared.tell.Stop.TheVariants as stop
use Rattle.lens_reports.specs.declared.tell.ReportSum.{ReportSum}
use Rattle.lens_reports.specs.declared.tell.ReportKind.{ReportKind}
use Rattle.lens_reports.specs.declared.tell.ReportKind.TheVariants.{Check, Demos, Survey}
use Rattle.lens_reports.specs.declared.job.ReportJob.{ReportJob}

-- the path of the list of more paths
abbrev pub list_path : ReportJob → Option (List ℕ)
list_path job = elim job.list [ None ↦ None | Some path ↦ Some path.now ]

-- standard input
abbrev pub dash : List ℕ
dash = codes "-"

-- what a list holds: standard input for `-`, which has the bytes `left`, and else the file under its path
abbrev pub held_at : (List ℕ → Option (List ℕ)) → Option (List ℕ) → List ℕ → Option (List ℕ)
held_at held left path = if bytes_eq path dash then left else held path

-- these are the bytes of the list of a job, no more than are read: none where there is no list
abbrev pub HoldsAt : (List ℕ → Option (List ℕ)) → Option (List ℕ) → Option (List ℕ) → List ℕ → Type 0
HoldsAt held left None list = list ≡ []
HoldsAt held left (Some path) list = Keeps (held_at held left path) (Some list) × (length list ≤ MAX_READ)

abbrev pub HoldsList : (List ℕ → Option (List ℕ)) → Option (List ℕ) → ReportJob → List ℕ → Type 0
HoldsList held left job list = HoldsAt held left (list_path job) list

-- why it isn't read: there is one, and its file isn't
abbrev pub RefusesAt : (List ℕ → Option (List ℕ)) → Option (List ℕ) → Option (List ℕ) → ReadFault → Type 0
RefusesAt held left None fault = ⊥
RefusesAt held left (Some path) fault = RefusesRead (held_at held left path) fault

abbrev pub ListUnread : (List ℕ → Option (List ℕ)) → Option (List ℕ) → ReportJob → ReadFault → Type 0
ListUnread held left job fault = RefusesAt held left (list_path job) fault

-- the paths of a job: those of the words, and then those of the list
abbrev pub job_paths : ReportJob → List ℕ → List (List ℕ)
job_paths job list = map (λ file. file.now) job.files.items ++ listed_paths job.list_end list

-- the list as messages name it
abbrev pub list_name_at : Option (List ℕ) → List ℕ
list_name_at None = codes "standard input"
list_name_at (Some path) = if bytes_eq path dash then codes "standard input" else path

abbrev pub list_name : ReportJob → List ℕ
list_name job = list_name_at (list_path job)

-- what a run ends with: a check with its totals, and else nothing more
abbrev pub last_line : ReportKind → Warnings → ℕ → Totals → List ℕ
last_line (Check most form) warnings files totals = totals_text form files warnings totals
last_line Survey warnings files totals = []
last_line (Demos form) warnings files totals = []

abbrev pub closing_line : Request → ℕ → Totals → List ℕ
closing_line asked files totals = last_line asked.word asked.judging.warnings files totals

-- which warnings weren't looked for, and how to have them looked for
abbrev pub unlooked_line : Unlisted → List ℕ
unlooked_line unlisted = if is_none unlisted then [] else (codes "wadlens: " ++ (unlisted_note unlisted ++ codes "\n"))

-- how a run ends whose output failed
abbrev pub output_end : Bool → Verdict → End
output_end closed found = if closed then end.Closed found else end.Output

-- the end of a run, after standard error took which warnings weren't looked for
abbrev pub noted_end : Verdict → Result (Unit {0}) IoFault → Result Verdict End
noted_end verdict (Ok x) = Ok verdict
noted_end verdict (Err fault) = Err end.Errors

-- how a run ends that stopped
abbrev pub stop_end : Bool → Stop → End
stop_end closed stop.Memory = end.Memory
stop_end closed (stop.Output found) = output_end closed found
stop_end closed stop.Errors = end.Errors

-- all was found, and the rest of the text was taken and all written out; or a write failed
abbrev pub TellsRest : {W : Type 0} → (W → Option (List ℕ)) → List ℕ → Verdict → Output W → Output W → Result Verdict End → Type 0
TellsRest contents text found old new (Ok verdict) =
    (verdict ≡ found) × Appends (output_state contents old).taken (output_state contents new).taken text × (held_back new ≡ [])
TellsRest contents text found old new (Err why) =
    (why ≡ output_end (is_closed new) found) × TakesFront (output_state contents old) (output_state contents new) text × (new.failed ≡ true)

-- where the rest was told, standard error took which warnings weren't looked for, or failed
abbrev pub NotesUnlooked : Unlisted → SinkState → SinkState → Result Verdict End → Result Verdict End → Type 0
NotesUnlooked unlisted errors errors' (Err why) result = (errors' ≡ errors) × (result ≡ Err why)
NotesUnlooked unlisted errors errors' (Ok verdict) result =
    (outcome : Result (Unit {0}) IoFault) × Writes errors errors' (unlooked_line unlisted) outcome × (result ≡ noted_end verdict outcome)

-- the rest of the text was told, and then which warnings weren't looked for
pub record EndsTelling {W : Type 0} (contents : W → Option (List ℕ)) (text : List ℕ) (unlisted : Unlisted) (found : Verdict) (old new : Output W) (errors errors' : SinkState) (result : Result Verdict End) : Type 0 where
  pub outcome : Result Verdict End
  pub rest : TellsRest contents text found old new outcome
  pub notes : NotesUnlooked unlisted errors errors' outcome result

-- all paths were told, and then the run ended
pub record TellsAll {W : Type 0} (held : List ℕ → Option (List ℕ)) (asked : Request) (paths : List (List ℕ)) (contents : W → Option (List ℕ)) (old new : Output W) (errors errors' : SinkState) (result : Result Verdict End) : Type 0 where
  pub between : Output W
  pub between_errors : SinkState
  pub tally : ReportSum
  pub told : ToldTo (stored held) asked (output_state contents old) errors paths (output_state contents between) between_errors tally
  pub rest : EndsTelling contents (closing_line asked (length paths) tally.totals) tally.totals.unlisted tally.verdict between new between_errors errors' result

-- the run stopped at a path; if standard error failed, nothing that was answered before is held back
pub record StopsJob {W : Type 0} (held : List ℕ → Option (List ℕ)) (asked : Request) (paths : List (List ℕ)) (contents : W → Option (List ℕ)) (old new : Output W) (errors errors' : SinkState) (result : Result Verdict End) : Type 0 where
  pub stop : Stop
  pub stops : StopsAt (stored held) asked paths (output_state contents old) errors (output_state contents new) errors' stop
  pub handed : OnErrors {T = ReportSum} (Err stop) (held_back new ≡ [])
  pub ended : result ≡ Err (stop_end (is_closed new) stop)

-- one of the two
abbrev pub TellsPaths : {W : Type 0} → (List ℕ → Option (List ℕ)) → Request → List (List ℕ) → (W → Option (List ℕ)) → Output W → Output W → SinkState → SinkState → Result Verdict End → Type 0
TellsPaths held asked paths contents old new errors errors' result =
    TellsAll held asked paths contents old new errors errors' result ⊎ StopsJob held asked paths contents old new errors errors' result

-- what a job asks of each file, over the base files
pub record IsAsked (job : ReportJob) (base : List Wad) (asked : Request) : Type 0 where
  pub word : asked.word ≡ job.word
  pub over : IsOver job.rules base asked.judging

-- the base files were read, and the paths of the words and of the list were reported on, or the run stopped at one
pub record RunsPaths {W : Type 0} (held : List ℕ → Option (List ℕ)) (left : Option (List ℕ)) (job : ReportJob) (contents : W → Option (List ℕ)) (old new : Output W) (errors errors' : SinkState) (result : Result Verdict End) : Type 0 where
  pub list : List ℕ
  pub holds : HoldsList held left job list
  pub base : List Wad
  pub bases : AreBases (stored held) job.bases base
  pub asked : Request
  pub is_asked : IsAsked job base asked
  pub tells : TellsPaths held asked (job_paths job list) contents old new errors errors' result

-- the list was read, and the first base file that isn't taken was reported; nothing was answered
pub record RefusesBases {W : Type 0} (held : List ℕ → Option (List ℕ)) (left : Option (List ℕ)) (job : ReportJob) (old new : Output W) (errors errors' : SinkState) (result : Result Verdict End) : Type 0 where
  pub list : List ℕ
  pub holds : HoldsList held left job list
  pub first : BaseFault
  pub refused : IsRefusedAt (stored held) job.bases first
  pub untouched : new ≡ old
  pub why : End
  pub told : EndsAtBase (path_at job.bases first.place) first.fault errors errors' why
  pub ended : result ≡ Err why

-- the list was refused before any file was read, and nothing was answered
pub record RefusesList {W : Type 0} (held : List ℕ → Option (List ℕ)) (left : Option (List ℕ)) (job : ReportJob) (old new : Output W) (errors errors' : SinkState) (result : Result Verdict End) : Type 0 where
  pub refusal : FileRefusal
  pub why : ListUnread held left job (Refused refusal)
  pub told : IsTold errors errors' (refusal_line (list_name job) refusal)
  pub untouched : new ≡ old
  pub ended : result ≡ Err end.Refused

-- there was no memory before anything was written
pub record WantsMemory {W : Type 0} (old new : Output W) (errors errors' : SinkState) (result : Result Verdict End) : Type 0 where
  pub untouched : new ≡ old
  pub silent : errors' ≡ errors
  pub ended : result ≡ Err end.Memory

-- the run of a job over files that hold what `held` says, and an input that has the bytes `left`, where they are known
abbrev pub RunsJob : {W : Type 0} → (List ℕ → Option (List ℕ)) → Option (List ℕ) → ReportJob → (W → Option (List ℕ)) → Output W → Output W → SinkState → SinkState → Result Verdict End → Type 0
RunsJob held left job contents old new errors errors' result =
    WantsMemory old new errors errors' result ⊎ RefusesList held left job old new errors errors' result
    ⊎ RefusesBases held left job old new errors errors' result ⊎ RunsPaths held left job contents old new errors errors' result
