-- What the run of `assemble` does (ours): the demo of a listing is written, or the wrong line is reported.
use Rattle.std.specs.Prelude.{◌≡◌, ◌⊎◌, ℕ, ◌≤◌, List, ◌++◌, codes, length, decimal, Option, Some, Result, Err}
use Rattle.std.specs.Io.KnownBytes.{Keeps}
use Rattle.demo_engines.specs.Assembly.{IsAssembled, RefusesListing as RefusesText}
use Rattle.demo_engines.specs.declared.assembly.Wanted.{Wanted}
use Rattle.demo_engines.specs.declared.assembly.Wanted.TheVariants.{LineEnd, Header, Nothing, Totals, TicCommand}
use Rattle.le_rec.specs.Sink.{SinkState}
use Rattle.lens_reports.specs.Files.{RefusesRead}
use Rattle.lens_reports.specs.Job.{TellsRest, WantsMemory}
use Rattle.lens_reports.specs.Run.{refusal_line}
use Rattle.lens_reports.specs.declared.end.End.{End}
use Rattle.lens_reports.specs.declared.end.End.TheVariants as end
use Rattle.lens_reports.specs.declared.files.ReadFault.TheVariants.{Refused}
use Rattle.lens_reports.specs.declared.output.Output.{Output}
use Rattle.line_io.specs.declared.input.TheConstants.{MAX_READ}
use Rattle.line_io.specs.Writes.{Writes}
use Rattle.line_io.specs.declared.fault.IoFault.{IoFault}
use Rattle.lens_engines.specs.declared.object.FileRefusal.{FileRefusal}
use Rattle.lens_engines.specs.declared.verdict.Verdict.{Verdict}
use Rattle.lens_engines.specs.declared.verdict.Verdict.TheVariants.{Clean}

-- what is wanted, in words
abbrev pub wanted_text : Wanted → List ℕ
wanted_text LineEnd = codes "the last line has no end"
wanted_text Header = codes "a demo's header is wanted"
wanted_text Nothing = codes "nothing more is wanted"
wanted_text (Totals tics odd) = codes "the totals are tics " ++ (decimal tics ++ (codes " odd " ++ (decimal odd ++ codes " after 0")))
wanted_text (TicCommand tic player) = codes "tic " ++ (decimal tic ++ (codes " player " ++ (decimal player ++ codes " or the totals are wanted")))

-- `wadlens: standard input: line 5 is no line of a listing: tic 3 player 1 or the totals are wanted`
abbrev pub line_text : ℕ → Wanted → List ℕ
line_text number wanted = codes "wadlens: standard input: line " ++ (decimal number ++ (codes " is no line of a listing: " ++ (wanted_text wanted ++ codes "\n")))

-- the demo of the listing was written
pub record AssemblesDemo {W : Type 0} (listing : List ℕ) (contents : W → Option (List ℕ)) (old new : Output W) (errors errors' : SinkState) (result : Result Verdict End) : Type 0 where
  pub text : List ℕ
  pub is : IsAssembled listing text
  pub silent : errors' ≡ errors
  pub rest : TellsRest contents text Clean old new result

-- the text is no listing: the number of its first wrong line was reported, and what is wanted there
pub record RefusesListing {W : Type 0} (listing : List ℕ) (old new : Output W) (errors errors' : SinkState) (result : Result Verdict End) : Type 0 where
  pub number : ℕ
  pub wanted : Wanted
  pub why : RefusesText listing number wanted
  pub outcome : Result (Unit {0}) IoFault
  pub told : Writes errors errors' (line_text number wanted) outcome
  pub untouched : new ≡ old
  pub ended : result ≡ Err end.Refused

-- or there was no memory
abbrev pub AssemblesBytes : {W : Type 0} → List ℕ → (W → Option (List ℕ)) → Output W → Output W → SinkState → SinkState → Result Verdict End → Type 0
AssemblesBytes listing contents old new errors errors' result =
    WantsMemory old new errors errors' result ⊎ RefusesListing listing old new errors errors' result
    ⊎ AssemblesDemo listing contents old new errors errors' result

-- the input was refused, and this was reported
pub record RefusesInput {W : Type 0} (left : Option (List ℕ)) (old new : Output W) (errors errors' : SinkState) (result : Result Verdict End) : Type 0 where
  pub refusal : FileRefusal
  pub why : RefusesRead left (Refused refusal)
  pub outcome : Result (Unit {0}) IoFault
  pub told : Writes errors errors' (refusal_line (codes "standard input") refusal) outcome
  pub untouched : new ≡ old
  pub ended : result ≡ Err end.Refused

-- all of the input was read
pub record AssemblesInput {W : Type 0} (left : Option (List ℕ)) (contents : W → Option (List ℕ)) (old new : Output W) (errors errors' : SinkState) (result : Result Verdict End) : Type 0 where
  pub listing : List ℕ
  pub holds : Keeps left (Some listing)
  pub few : length listing ≤ MAX_READ
  pub does : AssemblesBytes listing contents old new errors errors' result

-- the run over an input that has the bytes `left`, where they are known
abbrev pub RunsAssemble : {W : Type 0} → Option (List ℕ) → (W → Option (List ℕ)) → Output W → Output W → SinkState → SinkState → Result Verdict End → Type 0
RunsAssemble left contents old new errors errors' result =
    WantsMemory old new errors errors' result ⊎ RefusesInput left old new errors errors' result
    ⊎ AssemblesInput left contents old new errors errors' result
