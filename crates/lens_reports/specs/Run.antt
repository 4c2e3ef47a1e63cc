-- The report of a run on its files (ours): for each path in order the engine's text, or why its file is refused.
use Rattle.std.specs.Prelude.{◌≡◌, ◌⊎◌, ℕ, ◌≤◌, false, true, List, [], ◌∷◌, ◌++◌, codes, length, Some, Result, Ok, Err}
use Rattle.std.specs.Io.KnownBytes.{Appends, Keeps}
use Rattle.le_rec.specs.Sink.{SinkState}
use Rattle.demo_engines.specs.Demos.{is_wad_file}
use Rattle.lens_texts.specs.declared.form.Form.{Form}
use Rattle.lens_engines.specs.declared.judging.Judging.{Judging}
use Rattle.wad_dir.specs.Refusal.{RefusesWad}
use Rattle.wad_dir.specs.Wad.{IsRead, Wad}
use Rattle.wad_dir.specs.declared.wad.WadFault.{WadFault}
use Rattle.line_io.specs.Writes.{TakesFront, Writes}
use Rattle.line_io.specs.declared.fault.IoFault.{IoFault}
use Rattle.line_io.specs.declared.input.TheConstants.{MAX_READ}
use Rattle.lens_engines.specs.Check.{ChecksAll, ChecksFile}
use Rattle.lens_texts.specs.Head.{by_form}
use Rattle.lens_engines.specs.Objects.{refusal_text, refused_object}
use Rattle.lens_texts.specs.ShownPath.{shown_path}
use Rattle.lens_engines.specs.Survey.{SurveysAll, SurveysFile, graver}
use Rattle.lens_engines.specs.Totals.{no_totals, totals_with, verdict_of_totals}
use Rattle.lens_engines.specs.declared.object.FileRefusal.{FileRefusal}
use Rattle.lens_engines.specs.declared.object.FileRefusal.TheVariants as refusal
use Rattle.lens_engines.specs.declared.verdict.LevelsFault.{LevelsFault}
use Rattle.lens_engines.specs.declared.verdict.LevelsFault.TheVariants as engine
use Rattle.lens_engines.specs.declared.verdict.Verdict.{Verdict}
use Rattle.lens_engines.specs.declared.verdict.Verdict.TheVariants.{Clean, Unjudged}
use Rattle.lens_reports.specs.DemosTold.{StopsDemos, StopsRefusals, TellsDemosOf}
use Rattle.lens_texts.specs.declared.form.Form.TheVariants.{Lines, Objects}
use Rattle.lens_reports.specs.Files.{Known, RefusesKnown}
use Rattle.lens_reports.specs.declared.files.ReadFault.TheVariants.{Refused}
use Rattle.lens_reports.specs.declared.tell.Request.{Request}
use Rattle.lens_reports.specs.declared.tell.BytesFault.{BytesFault}
use Rattle.lens_reports.specs.declared.tell.BytesFault.TheVariants as fault
use Rattle.lens_reports.specs.declared.tell.Stop.{Stop}
use Rattle.lens_reports.specs.declared.tell.Stop.TheVariants as stop
use Rattle.lens_reports.specs.declared.tell.ReportSum.{ReportSum}
use Rattle.lens_reports.specs.declared.tell.ReportKind.{ReportKind}
use Rattle.lens_reports.specs.declared.tell.ReportKind.TheVariants.{Check, Demos, Survey}

-- a refused file's line on standard error: `wadlens: PATH: TEXT`
abbrev pub refusal_line : List ℕ → FileRefusal → List ℕ
refusal_line path refusal = codes "wadlens: " ++ (shown_path path ++ (codes ": " ++ (refusal_text refusal ++ codes "\n")))

-- a text was written to an end: all of it, or a front of it if the end failed
abbrev pub IsTold : SinkState → SinkState → List ℕ → Type 0
IsTold before after text = (outcome : Result (Unit {0}) IoFault) × Writes before after text outcome

-- what is answered of a refused file: its object, where objects are asked for, and else nothing
abbrev pub refusal_answer : ReportKind → List ℕ → FileRefusal → List ℕ
refusal_answer Survey path refusal = refused_object path refusal
refusal_answer (Check most form) path refusal = by_form form [] (refused_object path refusal)
refusal_answer (Demos Lines) path refusal = []
refusal_answer (Demos Objects) path refusal = refused_object path refusal

-- of no file
abbrev pub no_tally : ReportSum
no_tally = record { verdict = Clean; totals = no_totals }

-- of a refused file
abbrev pub refused_tally : ReportSum
refused_tally = record { verdict = Unjudged; totals = no_totals }

-- of a file whose survey has this verdict
abbrev pub survey_tally : Verdict → ReportSum
survey_tally verdict = record { verdict = verdict; totals = no_totals }

-- of both
abbrev pub tally_with : ReportSum → ReportSum → ReportSum
tally_with a b = record { verdict = graver a.verdict b.verdict; totals = totals_with a.totals b.totals }

-- a stop after files with a verdict: if the output failed, the graver of both counts
abbrev pub stop_after : Verdict → Stop → Stop
stop_after before stop.Memory = stop.Memory
stop_after before (stop.Output found) = stop.Output (graver before found)
stop_after before stop.Errors = stop.Errors

-- the objects of all levels of these bytes were taken
pub record SurveysBytes (path bytes : List ℕ) (judging : Judging) (before after : SinkState) (tally : ReportSum) : Type 0 where
  pub file : Wad
  pub of_bytes : file.bytes ≡ bytes
  pub read : IsRead file
  pub does : SurveysAll path (file ∷ []) judging before after tally.verdict
  pub adds : tally.totals ≡ no_totals

-- the lines of all levels of these bytes were taken
pub record ChecksBytes (most : ℕ) (form : Form) (path bytes : List ℕ) (judging : Judging) (before after : SinkState) (tally : ReportSum) : Type 0 where
  pub file : Wad
  pub of_bytes : file.bytes ≡ bytes
  pub read : IsRead file
  pub does : ChecksAll (record { form = form; path = path; most = most; judging = judging }) (file ∷ []) before after tally.totals
  pub says : tally.verdict ≡ verdict_of_totals tally.totals

-- what was asked was told of these bytes
abbrev pub TellsWord : ReportKind → List ℕ → List ℕ → Judging → SinkState → SinkState → SinkState → SinkState → ReportSum → Type 0
TellsWord Survey path bytes judging out out' errors errors' tally = SurveysBytes path bytes judging out out' tally × (errors' ≡ errors)
TellsWord (Check most form) path bytes judging out out' errors errors' tally = ChecksBytes most form path bytes judging out out' tally × (errors' ≡ errors)
TellsWord (Demos form) path bytes judging out out' errors errors' tally = TellsDemosOf form path bytes out out' errors errors' tally

-- a write failed within the report on levels, with this verdict up to there
abbrev pub StopsLevels : ReportKind → List ℕ → List ℕ → Judging → SinkState → SinkState → Verdict → Type 0
StopsLevels Survey path bytes judging before after found = SurveysFile path bytes judging before after (Err (engine.Write found))
StopsLevels (Check most form) path bytes judging before after found =
    ChecksFile (record { form = form; path = path; most = most; judging = judging }) bytes before after (Err (engine.Write found))
StopsLevels (Demos form) path bytes judging before after found = ⊥

-- or within the report on these bytes, by the word
abbrev pub TellsSome : ReportKind → List ℕ → List ℕ → Judging → SinkState → SinkState → SinkState → SinkState → Verdict → Type 0
TellsSome Survey path bytes judging out out' errors errors' found = StopsLevels Survey path bytes judging out out' found × (errors' ≡ errors)
TellsSome (Check most form) path bytes judging out out' errors errors' found = StopsLevels (Check most form) path bytes judging out out' found × (errors' ≡ errors)
TellsSome (Demos form) path bytes judging out out' errors errors' found = StopsDemos form path bytes out out' errors errors' found

-- standard error failed within the message about a demo that isn't read
abbrev pub StopsErrors : ReportKind → List ℕ → List ℕ → SinkState → SinkState → SinkState → SinkState → Type 0
StopsErrors Survey path bytes out out' errors errors' = ⊥
StopsErrors (Check most form) path bytes out out' errors errors' = ⊥
StopsErrors (Demos form) path bytes out out' errors errors' = StopsRefusals form path bytes out out' errors errors'

-- there was no memory to report on all of these bytes: nothing was answered, or the report on the first levels
abbrev pub TellsFirst : ReportKind → List ℕ → List ℕ → Judging → SinkState → SinkState → Type 0
TellsFirst Survey path bytes judging before after = (after ≡ before) ⊎ SurveysFile path bytes judging before after (Err engine.Memory)
TellsFirst (Check most form) path bytes judging before after =
    (after ≡ before) ⊎ ChecksFile (record { form = form; path = path; most = most; judging = judging }) bytes before after (Err engine.Memory)
TellsFirst (Demos form) path bytes judging before after = after ≡ before

-- bytes that are read as a WAD file have no directory; for demos, these are only bytes that begin as one
abbrev pub LacksDirectory : ReportKind → List ℕ → WadFault → Type 0
LacksDirectory Survey bytes why = RefusesWad bytes why
LacksDirectory (Check most form) bytes why = RefusesWad bytes why
LacksDirectory (Demos form) bytes why = (is_wad_file bytes ≡ true) × RefusesWad bytes why

-- an engine's fault, as one of a file's bytes
abbrev pub fault_of : LevelsFault → BytesFault
fault_of (engine.NoWad why) = fault.NoWad why
fault_of (engine.Write found) = fault.Output found
fault_of engine.Memory = fault.Memory

-- why the report on bytes isn't whole: they have no directory, and nothing was written; or an end failed; or there was no memory, and standard error took
-- nothing
abbrev pub LeavesBytes : {W E : Type 0} → (W → SinkState) → (E → SinkState) → ReportKind → List ℕ → List ℕ → Judging → W → W → E → E → BytesFault → Type 0
LeavesBytes state state' word path bytes judging out out' errors errors' (fault.NoWad why) =
    LacksDirectory word bytes why × (out' ≡ out) × (errors' ≡ errors)
LeavesBytes state state' word path bytes judging out out' errors errors' (fault.Output found) =
    TellsSome word path bytes judging (state out) (state out') (state' errors) (state' errors') found × ((state out').failed ≡ true)
LeavesBytes state state' word path bytes judging out out' errors errors' fault.Errors =
    StopsErrors word path bytes (state out) (state out') (state' errors) (state' errors')
LeavesBytes state state' word path bytes judging out out' errors errors' fault.Memory =
    TellsFirst word path bytes judging (state out) (state out') × (state' errors' ≡ state' errors)

-- the same for levels, which write to standard output alone
abbrev pub LeavesLevels : {W : Type 0} → (W → SinkState) → ReportKind → List ℕ → List ℕ → Judging → W → W → BytesFault → Type 0
LeavesLevels state word path bytes judging out out' (fault.NoWad why) = RefusesWad bytes why × (out' ≡ out)
LeavesLevels state word path bytes judging out out' (fault.Output found) =
    StopsLevels word path bytes judging (state out) (state out') found × ((state out').failed ≡ true)
LeavesLevels state word path bytes judging out out' fault.Errors = ⊥
LeavesLevels state word path bytes judging out out' fault.Memory = TellsFirst word path bytes judging (state out) (state out')

-- the file under a path was told
pub record TellsHeld (known : Known) (asked : Request) (path : List ℕ) (out out' errors errors' : SinkState) (tally : ReportSum) : Type 0 where
  pub bytes : List ℕ
  pub are : Keeps known.bytes (Some bytes)
  pub few : length bytes ≤ MAX_READ
  pub told : TellsWord asked.word path bytes asked.judging out out' errors errors' tally

-- the bytes under a path, where they are known, have no directory
pub record HasNoDirectory (known : Known) (word : ReportKind) (why : WadFault) : Type 0 where
  pub bytes : List ℕ
  pub are : Keeps known.bytes (Some bytes)
  pub few : length bytes ≤ MAX_READ
  pub refuses : LacksDirectory word bytes why

-- why a file is refused of which a word asks
abbrev pub RefusesFile : Known → ReportKind → FileRefusal → Type 0
RefusesFile known word (refusal.NoWad why) = HasNoDirectory known word why
RefusesFile known word refusal = RefusesKnown known (Refused refusal)

-- a file was refused: both ends took the report on it
pub record WritesRefusal (word : ReportKind) (path : List ℕ) (refusal : FileRefusal) (out out' errors errors' : SinkState) (tally : ReportSum) : Type 0 where
  pub line : Appends errors.taken errors'.taken (refusal_line path refusal)
  pub answer : Appends out.taken out'.taken (refusal_answer word path refusal)
  pub counts : tally ≡ refused_tally

-- the file under a path was refused
pub record TellsRefusal (known : Known) (word : ReportKind) (path : List ℕ) (out out' errors errors' : SinkState) (tally : ReportSum) : Type 0 where
  pub refusal : FileRefusal
  pub why : RefusesFile known word refusal
  pub writes : WritesRefusal word path refusal out out' errors errors' tally

-- what is told of the file under a path
abbrev pub TellsPath : Known → Request → List ℕ → SinkState → SinkState → SinkState → SinkState → ReportSum → Type 0
TellsPath known asked path out out' errors errors' tally =
    TellsHeld known asked path out out' errors errors' tally ⊎ TellsRefusal known asked.word path out out' errors errors' tally

-- the report on some paths, one after another, and its tally
pub data ToldTo (known : ℕ → List ℕ → Known) (asked : Request) (out errors : SinkState) : List (List ℕ) → SinkState → SinkState → ReportSum → Type 0 where
  at_start : ToldTo known asked out errors [] out errors no_tally
  with_path : (paths : List (List ℕ)) (out' errors' : SinkState) (sum : ReportSum) (path : List ℕ) (out'' errors'' : SinkState) (tally : ReportSum)
      → ToldTo known asked out errors paths out' errors' sum → TellsPath (known (length paths) path) asked path out' out'' errors' errors'' tally
      → ToldTo known asked out errors (paths ++ path ∷ []) out'' errors'' (tally_with sum tally)

-- neither end has failed
pub record AreSound (out errors : SinkState) : Type 0 where
  pub answers : out.failed ≡ false
  pub refusals : errors.failed ≡ false

-- the output failed within the answer to a refused file, behind its line
pub record LacksAnswer (word : ReportKind) (path : List ℕ) (refusal : FileRefusal) (out out' errors errors' : SinkState) : Type 0 where
  pub line : Appends errors.taken errors'.taken (refusal_line path refusal)
  pub front : TakesFront out out' (refusal_answer word path refusal)

-- or while it handed on what it held, before that line
pub record LacksHand (out out' errors errors' : SinkState) : Type 0 where
  pub same : Keeps out.taken out'.taken
  pub silent : errors' ≡ errors

-- a write failed in the report on a refused file: the output's, or standard error's
abbrev pub StopsRefusal : ReportKind → List ℕ → FileRefusal → SinkState → SinkState → SinkState → SinkState → Stop → Type 0
StopsRefusal word path refusal out out' errors errors' stop.Memory = ⊥
StopsRefusal word path refusal out out' errors errors' (stop.Output found) =
    (found ≡ Unjudged) × (out'.failed ≡ true) × (LacksAnswer word path refusal out out' errors errors' ⊎ LacksHand out out' errors errors')
StopsRefusal word path refusal out out' errors errors' stop.Errors =
    TakesFront errors errors' (refusal_line path refusal) × (errors'.failed ≡ true) × Keeps out.taken out'.taken × (out'.failed ≡ false)

-- a run stopped in the report on the file under a path, as its output failed
pub record StopsTelling (known : Known) (asked : Request) (path : List ℕ) (out out' errors errors' : SinkState) (found : Verdict) : Type 0 where
  pub bytes : List ℕ
  pub are : Keeps known.bytes (Some bytes)
  pub few : length bytes ≤ MAX_READ
  pub told : TellsSome asked.word path bytes asked.judging out out' errors errors' found
  pub failed : out'.failed ≡ true

-- a run stopped in a message about a demo that isn't read, in the file under a path
pub record StopsOnErrors (known : Known) (asked : Request) (path : List ℕ) (out out' errors errors' : SinkState) : Type 0 where
  pub bytes : List ℕ
  pub are : Keeps known.bytes (Some bytes)
  pub few : length bytes ≤ MAX_READ
  pub stops : StopsErrors asked.word path bytes out out' errors errors'

-- a run stopped in the report that the file under a path is refused
pub record StopsRefusing (known : Known) (word : ReportKind) (path : List ℕ) (out out' errors errors' : SinkState) (stop : Stop) : Type 0 where
  pub refusal : FileRefusal
  pub why : RefusesFile known word refusal
  pub stops : StopsRefusal word path refusal out out' errors errors' stop

-- the file under a path was read, and there was no memory to report on all of it
pub record TellsHeldFirst (known : Known) (asked : Request) (path : List ℕ) (out out' : SinkState) : Type 0 where
  pub bytes : List ℕ
  pub are : Keeps known.bytes (Some bytes)
  pub few : length bytes ≤ MAX_READ
  pub told : TellsFirst asked.word path bytes asked.judging out out'

-- the report on the file under a path without memory: none, or the first part of that on its bytes
pub record WantsMore (known : Known) (asked : Request) (path : List ℕ) (out out' errors errors' : SinkState) : Type 0 where
  pub answered : (out' ≡ out) ⊎ TellsHeldFirst known asked path out out'
  pub silent : errors' ≡ errors

-- why a run stopped at a path: a growth was refused, or an end failed
abbrev pub StopsPath : Known → Request → List ℕ → SinkState → SinkState → SinkState → SinkState → Stop → Type 0
StopsPath known asked path out out' errors errors' stop.Memory = WantsMore known asked path out out' errors errors'
StopsPath known asked path out out' errors errors' (stop.Output found) =
    StopsTelling known asked path out out' errors errors' found ⊎ StopsRefusing known asked.word path out out' errors errors' (stop.Output found)
StopsPath known asked path out out' errors errors' stop.Errors =
    StopsOnErrors known asked path out out' errors errors' ⊎ StopsRefusing known asked.word path out out' errors errors' stop.Errors

-- of some paths, all before one were reported on
pub record ToldBefore (known : ℕ → List ℕ → Known) (asked : Request) (paths : List (List ℕ)) (out errors : SinkState) (path : List ℕ) (out' errors' : SinkState) (found : ReportSum) : Type 0 where
  pub before : List (List ℕ)
  pub after : List (List ℕ)
  pub stands : paths ≡ before ++ path ∷ after
  pub told : ToldTo known asked out errors before out' errors' found

-- a run stopped at a path, and all before it were reported on
pub record StopsAt (known : ℕ → List ℕ → Known) (asked : Request) (paths : List (List ℕ)) (out errors out' errors' : SinkState) (stop : Stop) : Type 0 where
  pub path : List ℕ
  pub out_before : SinkState
  pub errors_before : SinkState
  pub found : ReportSum
  pub told : ToldBefore known asked paths out errors path out_before errors_before found
  pub at_path : Stop
  pub stops : StopsPath (known (length told.before) path) asked path out_before out' errors_before errors' at_path
  pub is : stop ≡ stop_after found.verdict at_path

-- what holds where standard error failed
abbrev pub OnErrors : {T : Type 0} → Result T Stop → Type 0 → Type 0
OnErrors (Ok x) holds = Unit {0}
OnErrors (Err stop.Memory) holds = Unit {0}
OnErrors (Err (stop.Output found)) holds = Unit {0}
OnErrors (Err stop.Errors) holds = holds

-- the same for a report on the bytes of a file
abbrev pub OnBytesErrors : {T : Type 0} → Result T BytesFault → Type 0 → Type 0
OnBytesErrors (Ok x) holds = Unit {0}
OnBytesErrors (Err (fault.NoWad why)) holds = Unit {0}
OnBytesErrors (Err (fault.Output found)) holds = Unit {0}
OnBytesErrors (Err fault.Errors) holds = holds
OnBytesErrors (Err fault.Memory) holds = Unit {0}
