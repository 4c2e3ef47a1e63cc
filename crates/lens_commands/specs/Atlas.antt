-- The folder of an atlas (ours): a picture for each level that has one, then the survey, and at last the page; and how its run ends.
use Rattle.std.specs.Prelude.{◌≡◌, ◌⊎◌, ◌&&◌, ℕ, Bool, true, nat_eq, nat_lt, List, [], ◌∷◌, ◌++◌, codes, length, Option, Some, IfSome, Result, Ok, Err}
use Rattle.std.specs.Io.KnownBytes.{Keeps}
use Rattle.le_rec.specs.Sink.{SinkState}
use Rattle.atlas_page.specs.Page.{page_text}
use Rattle.atlas_page.specs.declared.page.PageHead.{PageHead}
use Rattle.atlas_page.specs.declared.refused.RefusedFile.{RefusedFile}
use Rattle.atlas_page.specs.declared.row.Row.{Row}
use Rattle.lens_engines.specs.declared.object.FileRefusal.{FileRefusal}
use Rattle.lens_engines.specs.declared.verdict.Verdict.{Verdict}
use Rattle.lens_reports.specs.Job.{HoldsList, ListUnread, job_paths, list_name}
use Rattle.lens_reports.specs.Run.{IsTold, ToldTo, refusal_line}
use Rattle.lens_reports.specs.declared.end.End.{End}
use Rattle.lens_reports.specs.declared.end.End.TheVariants as end
use Rattle.lens_reports.specs.declared.files.ReadFault.TheVariants as read
use Rattle.lens_reports.specs.declared.tell.Request.{Request}
use Rattle.lens_reports.specs.declared.tell.ReportSum.{ReportSum}
use Rattle.lens_reports.specs.declared.tell.ReportKind.TheVariants.{Survey}
use Rattle.wad_dir.specs.Wad.{Wad}
use Rattle.lens_engines.specs.Rules.{IsOver}
use Rattle.lens_reports.specs.Bases.{AreBases, EndsAtBase, IsRefusedAt, path_at}
use Rattle.lens_reports.specs.declared.bases.BaseFault.{BaseFault}
use Rattle.lens_engines.specs.declared.judging.Judging.{Judging}
use Rattle.lens_engines.specs.declared.judging.Warnings.{Warnings}
use Rattle.lens_reports.specs.Files.{stored}
use Rattle.lens_commands.specs.Folder.{IsBegun, Kept, with_files}
use Rattle.lens_commands.specs.Gathered.{Gathers, GathersSome}
use Rattle.lens_commands.specs.AtlasTold.{fault_end, folder_line, refusal_text, write_text}
use Rattle.lens_commands.specs.Until.{TellsUntil}
use Rattle.lens_commands.specs.declared.atlas.fault.AtlasFault.{AtlasFault}
use Rattle.lens_commands.specs.declared.atlas.fault.AtlasFault.TheVariants as fault
use Rattle.lens_commands.specs.declared.atlas.folder.FolderRefusal.{FolderRefusal}
use Rattle.lens_commands.specs.declared.atlas.job.AtlasRequest.{AtlasRequest}
use Rattle.lens_commands.specs.declared.atlas.job.AtlasJob.{AtlasJob}

-- the survey of files
abbrev pub survey_of : Judging → Request
survey_of judging = record { word = Survey; judging = judging }

-- the survey among the files of the folder
abbrev pub survey_file : List ℕ → Kept
survey_file text = record { name = codes "survey.jsonl"; text = text }

-- and the page of these files
abbrev pub page_file : PageHead → Warnings → ℕ → List Row → List RefusedFile → Kept
page_file head warnings files rows refused =
    record { name = codes "index.html"; text = page_text head files warnings rows refused }

-- the page of an atlas, as a file of its folder
abbrev pub index_file : AtlasRequest → ℕ → List Row → List RefusedFile → Kept
index_file asked files rows refused = page_file asked.head asked.judging.warnings files rows refused

-- this text is the survey of these paths, and standard error took its messages; the rows and the pictures of each file come from the bytes that the survey
-- saw, and a file is refused where the survey refuses it, for the same reason
pub record IsSurvey (held : List ℕ → Option (List ℕ)) (asked : AtlasRequest) (paths : List (List ℕ)) (rows : List Row) (refused : List RefusedFile) (shown : List Kept)
    (files : Option (List Kept)) (errors errors' : SinkState) (tally : ReportSum) (text : List ℕ) : Type 0 where
  pub before : SinkState
  pub begun : IsBegun files before
  pub after : SinkState
  pub told : ToldTo (stored held) (survey_of asked.judging) before errors paths after errors' tally
  pub gathered : Gathers held asked before errors paths rows refused shown after errors' tally
  pub whole : Keeps after.taken (Some text)

-- all files of an atlas were added to a folder, the page last
pub record WritesAtlas (held : List ℕ → Option (List ℕ)) (asked : AtlasRequest) (paths : List (List ℕ)) (old new : Option (List Kept)) (errors errors' : SinkState) (verdict : Verdict) : Type 0 where
  pub rows : List Row
  pub refused : List RefusedFile
  pub shown : List Kept
  pub tally : ReportSum
  pub text : List ℕ
  pub survey : IsSurvey held asked paths rows refused shown old errors errors' tally text
  pub adds : new ≡ with_files old (shown ++ survey_file text ∷ index_file asked (length paths) rows refused ∷ [])
  pub says : verdict ≡ tally.verdict

-- there are files, and so many of them are refused: all
abbrev pub is_all_refused : ℕ → ℕ → Bool
is_all_refused files refused = nat_lt 0 files && nat_eq refused files

-- all paths are refused, so that there is nothing to show, and nothing was kept
pub record LeavesAtlas (held : List ℕ → Option (List ℕ)) (asked : AtlasRequest) (paths : List (List ℕ)) (old new : Option (List Kept)) (errors errors' : SinkState) (verdict : Verdict) : Type 0 where
  pub refused : List RefusedFile
  pub every : is_all_refused (length paths) (length refused) ≡ true
  pub tally : ReportSum
  pub before : SinkState
  pub begun : IsBegun old before
  pub after : SinkState
  pub told : ToldTo (stored held) (survey_of asked.judging) before errors paths after errors' tally
  pub gathered : Gathers held asked before errors paths [] refused [] after errors' tally
  pub untouched : new ≡ old
  pub says : verdict ≡ tally.verdict

-- the files of an atlas were written, or all paths are refused
abbrev pub EndsAtlas : (List ℕ → Option (List ℕ)) → AtlasRequest → List (List ℕ) → Option (List Kept) → Option (List Kept) → SinkState → SinkState → Verdict → Type 0
EndsAtlas held asked paths old new errors errors' verdict =
    LeavesAtlas held asked paths old new errors errors' verdict ⊎ WritesAtlas held asked paths old new errors errors' verdict

-- all files but the page were added
pub record LacksPage (held : List ℕ → Option (List ℕ)) (asked : AtlasRequest) (paths : List (List ℕ)) (old new : Option (List Kept)) (errors errors' : SinkState) : Type 0 where
  pub rows : List Row
  pub refused : List RefusedFile
  pub shown : List Kept
  pub tally : ReportSum
  pub text : List ℕ
  pub survey : IsSurvey held asked paths rows refused shown old errors errors' tally text
  pub adds : new ≡ with_files old (shown ++ survey_file text ∷ [])

-- a front of the pictures was added, while a begun survey was written
pub record GathersFront (held : List ℕ → Option (List ℕ)) (asked : AtlasRequest) (paths : List (List ℕ)) (old new : Option (List Kept)) (errors : SinkState) : Type 0 where
  pub before : SinkState
  pub begun : IsBegun old before
  pub gathers : GathersSome held asked paths old new before errors

-- an atlas isn't whole, and has no page: nothing was added, or a front of the pictures, or these all and the survey
abbrev pub StopsAtlas : (List ℕ → Option (List ℕ)) → AtlasRequest → List (List ℕ) → Option (List Kept) → Option (List Kept) → SinkState → SinkState → Type 0
StopsAtlas held asked paths old new errors errors' =
    (new ≡ old) ⊎ GathersFront held asked paths old new errors ⊎ LacksPage held asked paths old new errors errors'

-- how an atlas is asked for, over the base files
pub record IsAskedOf (job : AtlasJob) (base : List Wad) (asked : AtlasRequest) : Type 0 where
  pub over : IsOver job.job.rules base asked.judging
  pub drawn : asked.drawn ≡ job.drawn
  pub head : asked.head ≡ job.head
  pub most : asked.most ≡ job.most

-- if a file of the folder can't be written, this was reported
abbrev pub TellsFault : List ℕ → AtlasFault → SinkState → SinkState → Type 0
TellsFault folder fault.Memory errors errors' = errors' ≡ errors
TellsFault folder fault.Write errors errors' = IsTold errors errors' (folder_line folder write_text)
TellsFault folder fault.Errors errors errors' = errors' ≡ errors

-- the run ended before all was written, in a folder that was empty
pub record StopsRun (held : List ℕ → Option (List ℕ)) (job : AtlasJob) (asked : AtlasRequest) (paths : List (List ℕ)) (old new : Option (List Kept)) (errors errors' : SinkState) (result : Result Verdict End) : Type 0 where
  pub empty : IfSome old (λ files. files ≡ [])
  pub between : SinkState
  pub stops : StopsAtlas held asked paths old new errors between
  pub fault : AtlasFault
  pub files : TellsUntil held (survey_of asked.judging) paths old new errors between fault
  pub told : TellsFault job.folder.now fault between errors'
  pub ended : result ≡ Err (fault_end fault)

-- the folder wasn't taken, and nothing in it was touched
pub record RefusesFolder (refuses : FolderRefusal → Type 0) (job : AtlasJob) (old new : Option (List Kept)) (errors errors' : SinkState) (result : Result Verdict End) : Type 0 where
  pub refusal : FolderRefusal
  pub why : refuses refusal
  pub told : IsTold errors errors' (folder_line job.folder.now (refusal_text refusal))
  pub untouched : new ≡ old
  pub ended : result ≡ Err end.Refused

-- the run wrote its files, and these alone stand in the folder; or it left the folder, as all paths are refused
pub record EndsRun (held : List ℕ → Option (List ℕ)) (asked : AtlasRequest) (paths : List (List ℕ)) (old new : Option (List Kept)) (errors errors' : SinkState) (result : Result Verdict End) : Type 0 where
  pub empty : IfSome old (λ files. files ≡ [])
  pub verdict : Verdict
  pub writes : EndsAtlas held asked paths old new errors errors' verdict
  pub ended : result ≡ Ok verdict

-- the base files were read, and the paths became an atlas, or it isn't whole
pub record RunsOver (held : List ℕ → Option (List ℕ)) (job : AtlasJob) (paths : List (List ℕ)) (old new : Option (List Kept)) (errors errors' : SinkState) (result : Result Verdict End) : Type 0 where
  pub base : List Wad
  pub bases : AreBases (stored held) job.job.bases base
  pub asked : AtlasRequest
  pub is_asked : IsAskedOf job base asked
  pub runs : EndsRun held asked paths old new errors errors' result ⊎ StopsRun held job asked paths old new errors errors' result

-- the folder was taken, and the first base file that isn't taken was reported; nothing was written
pub record RefusesBases (held : List ℕ → Option (List ℕ)) (job : AtlasJob) (old new : Option (List Kept)) (errors errors' : SinkState) (result : Result Verdict End) : Type 0 where
  pub first : BaseFault
  pub refused : IsRefusedAt (stored held) job.job.bases first
  pub untouched : new ≡ old
  pub why : End
  pub told : EndsAtBase (path_at job.job.bases first.place) first.fault errors errors' why
  pub ended : result ≡ Err why

-- there was no memory for the list, the paths or what is known of the base files
pub record WantsMemory (old new : Option (List Kept)) (errors errors' : SinkState) (result : Result Verdict End) : Type 0 where
  pub untouched : new ≡ old
  pub silent : errors' ≡ errors
  pub ended : result ≡ Err end.Memory

-- what a run does in a folder that was taken
abbrev pub RunsTaken : (List ℕ → Option (List ℕ)) → AtlasJob → List (List ℕ) → Option (List Kept) → Option (List Kept) → SinkState → SinkState → Result Verdict End → Type 0
RunsTaken held job paths old new errors errors' result =
    WantsMemory old new errors errors' result ⊎ RefusesBases held job old new errors errors' result
    ⊎ RunsOver held job paths old new errors errors' result

-- the paths of the words and of the list became an atlas, or it isn't whole, or the folder or a base file wasn't taken
pub record RunsPaths (held : List ℕ → Option (List ℕ)) (left : Option (List ℕ)) (refuses : FolderRefusal → Type 0) (job : AtlasJob) (old new : Option (List Kept)) (errors errors' : SinkState) (result : Result Verdict End) : Type 0 where
  pub list : List ℕ
  pub holds : HoldsList held left job.job list
  pub runs : RunsOver held job (job_paths job.job list) old new errors errors' result
      ⊎ RefusesBases held job old new errors errors' result
      ⊎ RefusesFolder refuses job old new errors errors' result

-- the list was refused before any file was read, and the folder wasn't touched
pub record RefusesList (held : List ℕ → Option (List ℕ)) (left : Option (List ℕ)) (job : AtlasJob) (old new : Option (List Kept)) (errors errors' : SinkState) (result : Result Verdict End) : Type 0 where
  pub refusal : FileRefusal
  pub why : ListUnread held left job.job (read.Refused refusal)
  pub told : IsTold errors errors' (refusal_line (list_name job.job) refusal)
  pub untouched : new ≡ old
  pub ended : result ≡ Err end.Refused

-- the run over files that hold what `held` says, an input that has the bytes `left`, if they are known, and a folder, which isn't taken for the reasons of
-- `refuses`
abbrev pub RunsAtlas : (List ℕ → Option (List ℕ)) → Option (List ℕ) → (FolderRefusal → Type 0) → AtlasJob → Option (List Kept) → Option (List Kept)
    → SinkState → SinkState → Result Verdict End → Type 0
RunsAtlas held left refuses job old new errors errors' result =
    WantsMemory old new errors errors' result ⊎ RefusesList held left job old new errors errors' result
    ⊎ RunsPaths held left refuses job old new errors errors' result
