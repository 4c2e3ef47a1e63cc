-- What each command does (ours).
use Rattle.std.specs.Prelude.{◌≡◌, ℕ, Bool, List, Result}
use Rattle.le_rec.specs.Sink.{SinkState}
use Rattle.le_rec.specs.Source.{SourceState}
use Rattle.look_engines.specs.Engines.Lumps.{RunsLumps}
use Rattle.look_engines.specs.Engines.Audit.{RunsAudit}
use Rattle.look_engines.specs.Engines.Blocks.{RunsBlocks}
use Rattle.look_engines.specs.Engines.Census.{RunsCensus}
use Rattle.look_engines.specs.Engines.Extract.{RunsExtract}
use Rattle.look_engines.specs.Engines.Levels.{RunsLevels}
use Rattle.look_engines.specs.Engines.Demo.{RunsDemo}
use Rattle.look_engines.specs.Engines.Lmp.{RunsLmp}
use Rattle.look_engines.specs.Engines.Points.{RunsPoints}
use Rattle.look_engines.specs.Engines.Show.{RunsShow}
use Rattle.look_engines.specs.Engines.Sight.{RunsSight}
use Rattle.look_engines.specs.Command.{reading_of}
use Rattle.look_engines.specs.Runs.{EndsAs}
use Rattle.look_engines.specs.Words.{name_of}
use Rattle.line_io.specs.declared.input.TheConstants.{MAX_READ}
use Rattle.look_engines.specs.declared.engines.TheConstants.{MAX_INPUT}
use Rattle.look_engines.specs.declared.command.Cmd.{Cmd}
use Rattle.look_engines.specs.declared.command.Cmd.TheVariants.{Lumps, Levels, Show, Audit, Points, Census, Sight, Blocks, Extract, Demo, Lmp}
use Rattle.look_engines.specs.declared.command.Job.{Job}
use Rattle.look_engines.specs.declared.fault.RunFault.{RunFault}

-- a run over files of these bytes, a source and a sink, by their states: a command of files leaves the input alone
abbrev pub RunsCommand : {S W : Type 0} → (S → SourceState) → (W → SinkState) → Cmd → List (List ℕ) → Job → List (List ℕ) → S → S → W → W → Result Bool RunFault → Type 0
RunsCommand source sink Lumps words job bytes input input' out out' result =
    (input' ≡ input) × EndsAs (RunsLumps sink bytes out out') result
RunsCommand source sink Levels words job bytes input input' out out' result =
    (input' ≡ input) × EndsAs (RunsLevels sink bytes out out') result
RunsCommand source sink Show words job bytes input input' out out' result =
    (input' ≡ input) × EndsAs (RunsShow sink bytes (name_of words job) (reading_of job) out out') result
RunsCommand source sink Audit words job bytes input input' out out' result =
    (input' ≡ input) × RunsAudit sink bytes (name_of words job) (reading_of job) out out' result
RunsCommand source sink Points words job bytes input input' out out' result =
    EndsAs (RunsPoints source sink bytes (name_of words job) (reading_of job) MAX_INPUT input input' out out') result
RunsCommand source sink Census words job bytes input input' out out' result =
    EndsAs (RunsCensus source sink bytes (name_of words job) (reading_of job) MAX_INPUT input input' out out') result
RunsCommand source sink Sight words job bytes input input' out out' result =
    EndsAs (RunsSight source sink bytes (name_of words job) MAX_INPUT input input' out out') result
RunsCommand source sink Blocks words job bytes input input' out out' result =
    EndsAs (RunsBlocks source sink bytes (name_of words job) (reading_of job) MAX_INPUT input input' out out') result
RunsCommand source sink Extract words job bytes input input' out out' result =
    (input' ≡ input) × EndsAs (RunsExtract sink bytes (name_of words job) out out') result
RunsCommand source sink Demo words job bytes input input' out out' result =
    (input' ≡ input) × EndsAs (RunsDemo sink bytes (name_of words job) out out') result
-- the demo's file is the input
RunsCommand source sink Lmp words job bytes input input' out out' result =
    EndsAs (RunsLmp source sink MAX_READ input input' out out') result

-- the command of the job of the words
abbrev pub RunsJob : {S W : Type 0} → (S → SourceState) → (W → SinkState) → List (List ℕ) → Job → List (List ℕ) → S → S → W → W → Result Bool RunFault → Type 0
RunsJob source sink words job = RunsCommand source sink job.command words job
