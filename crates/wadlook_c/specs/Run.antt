-- The words of `wadlens` over files and an input that a caller lends (ours).
use Rattle.std.specs.Prelude.{◌≡◌, ◌≢◌, ◌⊎◌, ℕ, ◌==◌, ◌&&◌, ◌||◌, Bool, nat_le, nat_lt, List, [], ◌∷◌, ◌++◌, drop, length, map, min, take, Result, Ok, Err, if◌then◌else◌}
use Rattle.std.specs.Borrow.{Bor}
use Rattle.lens_calls.specs.Answer.{DoesLens, DoesListing}
use Rattle.lens_calls.specs.declared.asked.LensFault.{LensFault}
use Rattle.lens_calls.specs.declared.asked.LensFault.TheVariants.{Usage, Full}
use Rattle.lens_calls.specs.declared.asked.LensRequest.{LensRequest}
use Rattle.lens_engines.specs.declared.verdict.Verdict.{Verdict}
use Rattle.lens_reports.specs.Status.{status_of}
use Rattle.wadlook_c.specs.AtMost.{AtMost, state_of}
use Rattle.wadlook_c.specs.Question.{Asks, IsMistaken}
use Rattle.wadlook_c.specs.declared.question.Asked.TheVariants.{OfFiles, OfInput}
use Rattle.wadlook_c.specs.declared.question.WadlookQuestion.{WadlookQuestion}
use Rattle.wadlook_c.specs.declared.run.Parts.{Parts}
use Rattle.wadlook_c.specs.declared.run.Ran.{Ran}
use Rattle.wadlook_c.specs.declared.run.WadlookFile.{WadlookFile}
use Rattle.wadlook_c.specs.declared.run.WadlookTold.{WadlookTold}

-- the paths and the bytes of files
abbrev pub paths_of : List WadlookFile → List (List ℕ)
paths_of files = map (λ file. file.path.now) files

abbrev pub bytes_of : List WadlookFile → List (List ℕ)
bytes_of files = map (λ file. file.bytes.now) files

pub record HaveParts (files : List WadlookFile) (paths bytes : List (Bor (List ℕ))) : Type 0 where
  pub paths_are : map (λ path. path.now) paths ≡ paths_of files
  pub bytes_are : map (λ one. one.now) bytes ≡ bytes_of files

abbrev pub AreParts : List WadlookFile → Parts → Type 0
AreParts files parts = HaveParts files parts.paths.items parts.bytes.items

-- the path and the bytes of one file more
pub record AddsFile (file : WadlookFile) (old new : Parts) : Type 0 where
  pub path : new.paths.items ≡ old.paths.items ++ file.path ∷ []
  pub bytes : new.bytes.items ≡ old.bytes.items ++ file.bytes ∷ []

-- the question was done, into sinks that had taken nothing, or it isn't asked of so many files
pub record RunsFiles (request : LensRequest) (files : List WadlookFile) (ran : Ran) : Type 0 where
  pub answer : AtMost
  pub messages : AtMost
  pub empty : answer.taken ≡ []
  pub silent : messages.taken ≡ []
  pub does : DoesLens state_of state_of request (paths_of files) (bytes_of files) answer ran.answer messages ran.messages ran.outcome

-- a demo was put together, in the same way
pub record RunsInput (input : List ℕ) (ran : Ran) : Type 0 where
  pub answer : AtMost
  pub messages : AtMost
  pub empty : answer.taken ≡ []
  pub silent : messages.taken ≡ []
  pub does : DoesListing input (state_of answer) (state_of ran.answer) (state_of messages) (state_of ran.messages) ran.outcome

-- nothing was done
pub record IsMistakenRun (ran : Ran) : Type 0 where
  pub none : ran.answer.taken ≡ []
  pub silent : ran.messages.taken ≡ []
  pub ended : ran.outcome ≡ Err Usage

-- the question asks something of files
pub record AsksOfFiles (question : WadlookQuestion) (files : List WadlookFile) (ran : Ran) : Type 0 where
  pub request : LensRequest
  pub asks : Asks question (OfFiles request)
  pub does : RunsFiles request files ran

-- of the input alone
pub record AsksOfInput (question : WadlookQuestion) (files : List WadlookFile) (input : List ℕ) (ran : Ran) : Type 0 where
  pub asks : Asks question OfInput
  pub alone : files ≡ []
  pub does : RunsInput input ran

-- or it has no meaning, or is asked of files beside the input
pub record AsksNothing (question : WadlookQuestion) (files : List WadlookFile) (ran : Ran) : Type 0 where
  pub why : IsMistaken question ⊎ (Asks question OfInput × (files ≢ []))
  pub does : IsMistakenRun ran

-- one of the three
abbrev pub RunsOver : WadlookQuestion → List WadlookFile → List ℕ → Ran → Type 0
RunsOver question files input ran =
    AsksOfFiles question files ran ⊎ AsksOfInput question files input ran ⊎ AsksNothing question files ran

-- the front of a text that a limit allows: all of it where there is none
abbrev pub within : ℕ → List ℕ → List ℕ
within limit text = if limit == 0 then text else take limit text

-- whether the answer or the messages have as many bytes as it allows
abbrev pub is_reached : ℕ → Ran → Bool
is_reached limit ran = nat_lt 0 limit && (nat_le limit (length ran.answer.taken) || nat_le limit (length ran.messages.taken))

-- whether one of them has more
abbrev pub is_over : ℕ → Ran → Bool
is_over limit ran = nat_lt 0 limit && (nat_lt limit (length ran.answer.taken) || nat_lt limit (length ran.messages.taken))

-- the status of an outcome: that of the program; 4 where a run without an end has reached its limit, and else 3; 5 where nothing is asked
abbrev pub outcome_status : Bool → Result Verdict LensFault → ℕ
outcome_status reached (Ok verdict) = status_of verdict
outcome_status reached (Err Usage) = 5
outcome_status reached (Err Full) = if reached then 4 else 3

-- that of a run: 4, too, where only a front of what was made is handed out
abbrev pub run_status : ℕ → Ran → ℕ
run_status limit ran = if is_over limit ran then 4 else outcome_status (is_reached limit ran) ran.outcome

-- as much of a text as there is room for was copied to the front, and what lies behind it stayed
pub record FillsFront (text old new : List ℕ) : Type 0 where
  pub front : take (min (length text) (length old)) new ≡ take (min (length text) (length old)) text
  pub rest : drop (min (length text) (length old)) new ≡ drop (min (length text) (length old)) old

-- it was done: the status says how that ended, and the answer and the messages stand in front, as far as there is room
pub record RunsInto (question : WadlookQuestion) (files : List WadlookFile) (input answer answer' messages messages' : List ℕ) (told : WadlookTold) (status : ℕ) : Type 0 where
  pub ran : Ran
  pub does : RunsOver question files input ran
  pub ended : status ≡ run_status question.limit ran
  pub answered : told.answer ≡ length (within question.limit ran.answer.taken)
  pub noted : told.messages ≡ length (within question.limit ran.messages.taken)
  pub answer_is : FillsFront (within question.limit ran.answer.taken) answer answer'
  pub messages_are : FillsFront (within question.limit ran.messages.taken) messages messages'

-- there was no memory for the list of files, and nothing was done
pub record WantsMemory (answer answer' messages messages' : List ℕ) (told : WadlookTold) (status : ℕ) : Type 0 where
  pub ended : status ≡ 3
  pub answered : told.answer ≡ 0
  pub noted : told.messages ≡ 0
  pub untouched : answer' ≡ answer
  pub silent : messages' ≡ messages

abbrev pub RunEnds : WadlookQuestion → List WadlookFile → List ℕ → List ℕ → List ℕ → List ℕ → List ℕ → WadlookTold → ℕ → Type 0
RunEnds question files input answer answer' messages messages' told status =
    WantsMemory answer answer' messages messages' told status ⊎ RunsInto question files input answer answer' messages messages' told status
