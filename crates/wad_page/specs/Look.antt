-- What words of `wadlook` do over files and an input in memory (ours).
use Rattle.std.specs.Prelude.{◌≡◌, ◌⊎◌, ℕ, Bool, false, List, [], length, slice_index_or, Some, Result, Err}
use Rattle.le_rec.specs.Sink.{SinkState}
use Rattle.memory_streams.specs.FromSlice.{bytes_left, state_of as slice_state}
use Rattle.memory_streams.specs.ToVec.{ToVec, state_of as vec_state}
use Rattle.memory_streams.specs.declared.from_slice.FromSlice.{FromSlice}
use Rattle.look_engines.specs.RunsJob.{RunsJob}
use Rattle.look_engines.specs.Words.{IsJob, paths_of}
use Rattle.look_engines.specs.declared.command.Cmd.{Cmd}
use Rattle.look_engines.specs.declared.command.Cmd.TheVariants.{Lmp}
use Rattle.look_engines.specs.declared.command.Job.{Job}
use Rattle.look_engines.specs.declared.fault.RunFault.{RunFault}
use Rattle.look_engines.specs.declared.fault.RunFault.TheVariants.{Memory}
use Rattle.wad_page.specs.Ended.{HandsOut, LacksRoom, TellsFront}
use Rattle.wad_page.specs.Parts.{AreGiven, AreWords, cut}
use Rattle.wad_page.specs.Refusal.{exit_status_of, page_end, reason_text}
use Rattle.wad_page.specs.declared.Ended.{Ended}
use Rattle.wad_page.specs.declared.parts.SizedBytes.{SizedBytes}
use Rattle.wad_page.specs.declared.refusal.PageRefusal.{PageRefusal}
use Rattle.wad_page.specs.declared.refusal.PageRefusal.TheVariants.{Usage, Run}

-- the words ask for a job, over as many files as it names
pub record Asks (parts files : SizedBytes) (words : List (List ℕ)) (job : Job) (bytes : List (List ℕ)) : Type 0 where
  pub words_are : AreWords parts words
  pub asked : IsJob words job
  pub files_are : cut files.sizes.now files.bytes.now ≡ Some bytes
  pub as_many : length bytes ≡ length (paths_of words job)

-- what a command reads as its input: `lmp` its file
abbrev pub input_for : Cmd → List (List ℕ) → List ℕ → List ℕ
input_for Lmp files input = slice_index_or files 0 []
input_for _ files input = input

-- the job's command runs over the files and the input
pub record RunsFiles {W : Type 0} (sink : W → SinkState) (words : List (List ℕ)) (job : Job) (files : List (List ℕ)) (input : List ℕ) (out out' : W) (result : Result Bool RunFault) : Type 0 where
  pub source : FromSlice
  pub source' : FromSlice
  pub given : bytes_left source ≡ input_for job.command files input
  pub runs : RunsJob slice_state sink words job files source source' out out' result

-- the words' job runs over the files
pub record RunsWords {W : Type 0} (sink : W → SinkState) (parts files : SizedBytes) (input : List ℕ) (out out' : W) (result : Result Bool PageRefusal) : Type 0 where
  pub words : List (List ℕ)
  pub job : Job
  pub bytes : List (List ℕ)
  pub asks : Asks parts files words job bytes
  pub outcome : Result Bool RunFault
  pub runs : RunsFiles sink words job bytes input out out' outcome
  pub ended : result ≡ page_end outcome

-- why none does: the words ask for none over so many files, or there is no memory
abbrev pub RefusesLook : SizedBytes → SizedBytes → PageRefusal → Type 0
RefusesLook parts files Usage = (words : List (List ℕ)) (job : Job) (bytes : List (List ℕ)) → ¬ Asks parts files words job bytes
RefusesLook parts files (Run fault) = fault ≡ Memory

-- it ended before anything was written
pub record IsRefused {W : Type 0} (parts files : SizedBytes) (out out' : W) (result : Result Bool PageRefusal) : Type 0 where
  pub refusal : PageRefusal
  pub ended : result ≡ Err refusal
  pub holds : RefusesLook parts files refusal
  pub untouched : out' ≡ out

abbrev pub DoesLook : {W : Type 0} → (W → SinkState) → SizedBytes → SizedBytes → List ℕ → W → W → Result Bool PageRefusal → Type 0
DoesLook sink parts files input out out' result =
    IsRefused parts files out out' result ⊎ RunsWords sink parts files input out out' result

-- it did what the words ask for: the status says how that ended, and isn't the one for no room; the whole answer stands at the front of `out`, and the
-- reason of a refusal at the front of `why`
pub record Looked (words word_sizes files file_sizes input out out' why why' : List ℕ) (ended : Ended) : Type 0 where
  pub asked : SizedBytes
  pub words_are : AreGiven asked words word_sizes
  pub given : SizedBytes
  pub files_are : AreGiven given files file_sizes
  pub sink : ToVec
  pub sink' : ToVec
  pub empty : sink.taken ≡ []
  pub outcome : Result Bool PageRefusal
  pub does : DoesLook vec_state asked given input sink sink' outcome
  pub sound : sink'.failed ≡ false
  pub status : ended.status ≡ exit_status_of outcome
  pub room : ¬ (ended.status ≡ 3)
  pub answer : HandsOut sink'.taken out out' ended.answered
  pub told : TellsFront (reason_text outcome) why why' ended.told

-- or there was no room for it
abbrev pub LookEnds : List ℕ → List ℕ → List ℕ → List ℕ → List ℕ → List ℕ → List ℕ → List ℕ → List ℕ → Ended → Type 0
LookEnds words word_sizes files file_sizes input out out' why why' ended =
    LacksRoom ended ⊎ Looked words word_sizes files file_sizes input out out' why why' ended
