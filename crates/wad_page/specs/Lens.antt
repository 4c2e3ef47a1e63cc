-- Questions to `wadlens` over files in memory, as a host asks them by numbers (ours).
use Rattle.std.specs.Prelude.{◌≡◌, ◌≢◌, ◌⊎◌, ℕ, ◌==◌, List, [], codes, length, map, Some, Result, Ok, Err, false, if◌then◌else◌}
use Rattle.lens_calls.specs.Answer.{DoesLens, lens_status}
use Rattle.lens_calls.specs.Asked.{Takes}
use Rattle.lens_calls.specs.declared.asked.LensFault.{LensFault}
use Rattle.lens_calls.specs.declared.asked.LensFault.TheVariants.{Usage, Full}
use Rattle.lens_calls.specs.declared.asked.LensRequest.{LensRequest}
use Rattle.lens_calls.specs.declared.asked.LensWord.{LensWord}
use Rattle.lens_calls.specs.declared.asked.LensWord.TheVariants as lens
use Rattle.lens_engines.specs.declared.judging.Warnings.{Warnings}
use Rattle.lens_engines.specs.declared.judging.Warnings.TheVariants.{Unasked, Told}
use Rattle.lens_engines.specs.declared.verdict.Verdict.{Verdict}
use Rattle.lens_reports.specs.declared.cut.CutAsked.TheVariants.{Entry}
use Rattle.lens_reports.specs.declared.tell.ReportKind.TheVariants.{Check, Survey, Demos}
use Rattle.lens_texts.specs.declared.form.Form.TheVariants.{Lines, Objects}
use Rattle.level_codes.specs.Sets.{group_codes, no_codes}
use Rattle.level_codes.specs.declared.set.CodeSet.{CodeSet}
use Rattle.level_codes.specs.declared.set.Group.TheVariants as group
use Rattle.map_level.specs.declared.reading.Reading.{Reading}
use Rattle.map_level.specs.declared.reading.Reading.TheVariants.{Signed, Wide}
use Rattle.memory_streams.specs.ToVec.{ToVec, state_of as vec_state}
use Rattle.wad_page.specs.Ended.{HandsOut, LacksRoom}
use Rattle.wad_page.specs.Parts.{AreGiven, cut}
use Rattle.wad_page.specs.declared.Ended.{Ended}
use Rattle.wad_page.specs.declared.lens.Asked.{Asked}
use Rattle.wad_page.specs.declared.lens.LensQuestion.{LensQuestion}
use Rattle.wad_page.specs.declared.parts.SizedBytes.{SizedBytes}

-- a command's number, and what number goes with it
abbrev pub AsksWord : ℕ → ℕ → LensWord → Type 0
AsksWord command number (lens.Tell (Check most Lines)) = (command ≡ 0) × (most ≡ number)
AsksWord command number (lens.Tell (Check most Objects)) = (command ≡ 5) × (most ≡ number)
AsksWord command number (lens.Tell Survey) = command ≡ 1
AsksWord command number (lens.Tell (Demos Lines)) = command ≡ 2
AsksWord command number (lens.Tell (Demos Objects)) = command ≡ 3
AsksWord command number (lens.Cut (Entry entry)) = (command ≡ 4) × (entry ≡ number)
AsksWord command number lens.List = command ≡ 6
AsksWord command number _ = ⊥

-- how warnings are asked for
abbrev pub AsksWarnings : ℕ → Warnings → Type 0
AsksWarnings number Unasked = number ≡ 0
AsksWarnings number Told = (number ≡ 1) ⊎ (number ≡ 2)

-- what is as grave as a fault: with 2 each warning is
abbrev pub failing_of : ℕ → CodeSet
failing_of number = if number == 2 then group_codes group.Warnings else no_codes

abbrev pub reading_of : ℕ → Reading
reading_of wide = if wide == 0 then Signed else Wide

-- a question asks for this
pub record Asks (question : LensQuestion) (asked : LensRequest) : Type 0 where
  pub word_is : AsksWord question.command question.number asked.word
  pub warnings_are : AsksWarnings question.warnings asked.rules.warnings
  pub reads : asked.rules.reading ≡ reading_of question.wide
  pub all : asked.rules.ignored ≡ no_codes
  pub fails : asked.rules.failing ≡ failing_of question.warnings
  pub goes_on : asked.rules.game_ends ≡ false
  pub over : asked.bases ≡ question.bases

-- the question asks for this of these files, one for each path
pub record AsksFiles (question : LensQuestion) (named given : SizedBytes) (asked : LensRequest) (paths files : List (List ℕ)) : Type 0 where
  pub asks : Asks question asked
  pub paths_are : cut named.sizes.now named.bytes.now ≡ Some paths
  pub files_are : cut given.sizes.now given.bytes.now ≡ Some files
  pub as_many : length paths ≡ length files

-- it is what was read of the question
abbrev pub AreAsked : {A : Type 0} → LensQuestion → SizedBytes → SizedBytes → Asked A → Type 0
AreAsked question named given asked =
    AsksFiles question named given asked.request (map (λ path. path.now) asked.paths.items) (map (λ file. file.now) asked.files.items)

-- something is asked
abbrev pub AskSomething : LensQuestion → Type 0
AskSomething question = (asked : LensRequest) × Asks question asked

-- nothing is asked of these files; or there was no memory
abbrev pub RefusesAsked : LensQuestion → SizedBytes → SizedBytes → LensFault → Type 0
RefusesAsked question named given Usage = (asked : LensRequest) (paths files : List (List ℕ)) → ¬ AsksFiles question named given asked paths files
RefusesAsked question named given Full = AskSomething question

-- the question was answered
pub record AnswersQuestion (question : LensQuestion) (named given : SizedBytes) (out out' errors errors' : ToVec) (verdict : Verdict) : Type 0 where
  pub asked : LensRequest
  pub paths : List (List ℕ)
  pub files : List (List ℕ)
  pub asks : AsksFiles question named given asked paths files
  pub does : DoesLens vec_state vec_state asked paths files out out' errors errors' (Ok verdict)

-- nothing is asked, or not of so many files, and nothing was written
pub record RefusesQuestion (question : LensQuestion) (named given : SizedBytes) (out out' errors errors' : ToVec) : Type 0 where
  pub none : (asked : LensRequest) (paths files : List (List ℕ)) → AsksFiles question named given asked paths files → ¬ Takes asked.word asked.bases (length files)
  pub untouched : out' ≡ out
  pub silent : errors' ≡ errors

-- one of the two, or there was no room for what is asked
abbrev pub DoesQuestion : LensQuestion → SizedBytes → SizedBytes → ToVec → ToVec → ToVec → ToVec → Result Verdict LensFault → Type 0
DoesQuestion question named given out out' errors errors' (Ok verdict) = AnswersQuestion question named given out out' errors errors' verdict
DoesQuestion question named given out out' errors errors' (Err Usage) = RefusesQuestion question named given out out' errors errors'
DoesQuestion question named given out out' errors errors' (Err Full) = AskSomething question

-- the message beside the answer: what the run reported, or `usage` where nothing is asked
abbrev pub lens_message : Result Verdict LensFault → List ℕ → List ℕ
lens_message (Ok verdict) told = told
lens_message (Err Usage) told = codes "usage"
lens_message (Err Full) told = told

-- the question was answered: the status says how that ended, the answer stands at the front of `out`, and the message at the front of `why`
pub record Lensed (question : LensQuestion) (paths path_sizes files file_sizes out out' why why' : List ℕ) (ended : Ended) : Type 0 where
  pub named : SizedBytes
  pub names_are : AreGiven named paths path_sizes
  pub given : SizedBytes
  pub files_are : AreGiven given files file_sizes
  pub sink : ToVec
  pub sink' : ToVec
  pub empty : sink.taken ≡ []
  pub messages : ToVec
  pub messages' : ToVec
  pub silent : messages.taken ≡ []
  pub outcome : Result Verdict LensFault
  pub room : outcome ≢ Err Full
  pub does : DoesQuestion question named given sink sink' messages messages' outcome
  pub status : ended.status ≡ lens_status outcome
  pub answer : HandsOut sink'.taken out out' ended.answered
  pub message : HandsOut (lens_message outcome messages'.taken) why why' ended.told

-- or there was no room for it
abbrev pub LensEnds : LensQuestion → List ℕ → List ℕ → List ℕ → List ℕ → List ℕ → List ℕ → List ℕ → List ℕ → Ended → Type 0
LensEnds question paths path_sizes files file_sizes out out' why why' ended =
    LacksRoom ended ⊎ Lensed question paths path_sizes files file_sizes out out' why why' ended
