-- What the program does with its words (ours).
use Rattle.std.specs.Prelude.{◌≡◌, ◌≢◌, ◌≤◌, ◌⊎◌, ℕ, Bool, List, [], slice_index_or, Option, Result, Ok, Err}
use Rattle.std.specs.Io.KnownBytes.{Keeps}
use Rattle.le_rec.specs.Sink.{SinkState}
use Rattle.le_rec.specs.Source.{SourceState}
use Rattle.line_io.specs.declared.input.TheConstants.{MAX_READ}
use Rattle.look_engines.specs.RunsJob.{RunsJob}
use Rattle.look_engines.specs.Words.{IsJob, paths_of}
use Rattle.look_engines.specs.declared.command.Cmd.TheVariants.{Lmp}
use Rattle.look_engines.specs.declared.command.Job.{Job}
use Rattle.look_engines.specs.declared.fault.RunFault.{RunFault}
use Rattle.look_engines.specs.declared.fault.RunFault.TheVariants.{Write}
use Rattle.line_io.specs.Storage.{AreHeld, total_length}
use Rattle.wadlook.specs.Files.{IsTooLong, RefusesPaths}
use Rattle.wadlook.specs.declared.refusal.ProgramRefusal.{ProgramRefusal}
use Rattle.wadlook.specs.declared.refusal.ProgramRefusal.TheVariants.{Usage, TooLong, Run}

-- the end of a run, as that of the program
abbrev pub program_end : Result Bool RunFault → Result Bool ProgramRefusal
program_end (Ok clean) = Ok clean
program_end (Err fault) = Err (Run fault)

-- the job's command runs over these files and an input with the bytes `left`, if they are known; the program ends as the command does, or because the
-- output can't be written
pub record RunsFiles {S W : Type 0} (source : S → SourceState) (sink : W → SinkState) (left : Option (List ℕ)) (words : List (List ℕ)) (job : Job) (files : List (List ℕ)) (result : Result Bool ProgramRefusal) : Type 0 where
  pub input : S
  pub input' : S
  pub out : W
  pub out' : W
  pub given : (source input).left ≡ left
  pub outcome : Result Bool RunFault
  pub runs : RunsJob source sink words job files input input' out out' outcome
  pub ended : (result ≡ program_end outcome) ⊎ (result ≡ Err (Run Write))

-- why a job's command doesn't run: its files can't be read; the file of `lmp` is never too long
abbrev pub RefusesJob : (List ℕ → Option (List ℕ)) → List (List ℕ) → Job → ProgramRefusal → Type 0
RefusesJob held words job (TooLong n) = (job.command ≢ Lmp) × IsTooLong held (paths_of words job) n
RefusesJob held words job refusal = RefusesPaths held (paths_of words job) refusal

-- why no command runs: the words are no form of one, or their job's command doesn't run
abbrev pub RefusesWords : (List ℕ → Option (List ℕ)) → List (List ℕ) → ProgramRefusal → Type 0
RefusesWords held words Usage = (job : Job) → ¬ IsJob words job
RefusesWords held words refusal = (job : Job) × IsJob words job × RefusesJob held words job refusal

-- a command ran over the files of the words, or `lmp` over its file, or none did
pub record RunsWords {S W : Type 0} (source : S → SourceState) (sink : W → SinkState) (held : List ℕ → Option (List ℕ)) (left : Option (List ℕ)) (words : List (List ℕ)) (result : Result Bool ProgramRefusal) : Type 0 where
  pub job : Job
  pub asked : IsJob words job
  pub over_files : job.command ≢ Lmp
  pub files : List (List ℕ)
  pub read : AreHeld held (paths_of words job) files
  pub within : total_length files ≤ MAX_READ
  pub runs : RunsFiles source sink left words job files result

-- the input of a command is its first file
pub record ListsPath {S W : Type 0} (source : S → SourceState) (sink : W → SinkState) (held : List ℕ → Option (List ℕ)) (words : List (List ℕ)) (job : Job) (result : Result Bool ProgramRefusal) : Type 0 where
  pub left : Option (List ℕ)
  pub opened : Keeps (held (slice_index_or (paths_of words job) 0 [])) left
  pub runs : RunsFiles source sink left words job [] result

-- the input of `lmp` is its file
pub record ListsFile {S W : Type 0} (source : S → SourceState) (sink : W → SinkState) (held : List ℕ → Option (List ℕ)) (words : List (List ℕ)) (result : Result Bool ProgramRefusal) : Type 0 where
  pub job : Job
  pub asked : IsJob words job
  pub lists : job.command ≡ Lmp
  pub listed : ListsPath source sink held words job result

-- a job ended without a run of its command
pub record IsStopped (held : List ℕ → Option (List ℕ)) (words : List (List ℕ)) (job : Job) (result : Result Bool ProgramRefusal) : Type 0 where
  pub refusal : ProgramRefusal
  pub ended : result ≡ Err refusal
  pub holds : RefusesJob held words job refusal

pub record IsRefused (held : List ℕ → Option (List ℕ)) (words : List (List ℕ)) (result : Result Bool ProgramRefusal) : Type 0 where
  pub refusal : ProgramRefusal
  pub ended : result ≡ Err refusal
  pub holds : RefusesWords held words refusal

abbrev pub DoesWords : {S F W : Type 0} → (S → SourceState) → (F → SourceState) → (W → SinkState) → (List ℕ → Option (List ℕ)) → Option (List ℕ) → List (List ℕ) → Result Bool ProgramRefusal → Type 0
DoesWords source file sink held left words result =
    IsRefused held words result ⊎ RunsWords source sink held left words result ⊎ ListsFile file sink held words result
