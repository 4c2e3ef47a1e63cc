-- What the run of `compare` does (ours): it writes where the demos of two files first differ, or reports why a file holds none.
use Rattle.std.specs.Prelude.{◌≡◌, ◌⊎◌, ℕ, List, [], ◌++◌, Option, Result, Err}
use Rattle.demo_listings.specs.Differences.{AreSame, Differs}
use Rattle.demo_listings.specs.declared.meaning.Compared.{Compared}
use Rattle.later_demos.specs.Demo.{Demo}
use Rattle.le_rec.specs.Sink.{SinkState}
use Rattle.lens_reports.specs.Job.{TellsRest, WantsMemory}
use Rattle.lens_commands.specs.GivenDemo.{HasDemo, HasNone, IsGiven, TellsGiven}
use Rattle.lens_commands.specs.declared.given.Given.{Given}
use Rattle.lens_reports.specs.declared.end.End.{End}
use Rattle.lens_reports.specs.declared.end.End.TheVariants as end
use Rattle.lens_reports.specs.declared.output.Output.{Output}
use Rattle.line_io.specs.Writes.{Writes}
use Rattle.line_io.specs.declared.fault.IoFault.{IoFault}
use Rattle.lens_engines.specs.declared.verdict.Verdict.{Verdict}
use Rattle.lens_engines.specs.declared.verdict.Verdict.TheVariants.{Clean, Faulty}

-- both files have demos: nothing is written if they are the same, else where they first differ
pub record ComparesBoth {W : Type 0} (what : Compared) (given_a given_b : Given) (contents : W → Option (List ℕ)) (old new : Output W) (errors errors' : SinkState) (result : Result Verdict End) : Type 0 where
  pub a : Demo
  pub b : Demo
  pub of_a : HasDemo given_a a
  pub of_b : HasDemo given_b b
  pub silent : errors' ≡ errors
  pub tells : (AreSame what a b × TellsRest contents [] Clean old new result)
      ⊎ ((text : List ℕ) × Differs what a b text × TellsRest contents text Faulty old new result)

-- what is told of both was written
pub record WritesBoth (path_a path_b : List ℕ) (given_a given_b : Given) (errors errors' : SinkState) (outcome : Result (Unit {0}) IoFault) : Type 0 where
  pub text_a : List ℕ
  pub text_b : List ℕ
  pub of_a : TellsGiven path_a given_a text_a
  pub of_b : TellsGiven path_b given_b text_b
  pub told : Writes errors errors' (text_a ++ text_b) outcome

abbrev pub ToldBoth : List ℕ → List ℕ → Given → Given → SinkState → SinkState → Type 0
ToldBoth path_a path_b given_a given_b errors errors' =
    (outcome : Result (Unit {0}) IoFault) × WritesBoth path_a path_b given_a given_b errors errors' outcome

-- one file has no demo, or both have none, and this was reported for each of them
pub record RefusesOne {W : Type 0} (path_a path_b : List ℕ) (given_a given_b : Given) (old new : Output W) (errors errors' : SinkState) (result : Result Verdict End) : Type 0 where
  pub none : HasNone given_a ⊎ HasNone given_b
  pub told : ToldBoth path_a path_b given_a given_b errors errors'
  pub untouched : new ≡ old
  pub ended : result ≡ Err end.Refused

-- both files were read, or refused
pub record ComparesFiles {W : Type 0} (what : Compared) (held_a held_b : Option (List ℕ)) (path_a path_b : List ℕ) (contents : W → Option (List ℕ)) (old new : Output W) (errors errors' : SinkState) (result : Result Verdict End) : Type 0 where
  pub given_a : Given
  pub given_b : Given
  pub is_a : IsGiven held_a given_a
  pub is_b : IsGiven held_b given_b
  pub does : ComparesBoth what given_a given_b contents old new errors errors' result
      ⊎ RefusesOne path_a path_b given_a given_b old new errors errors' result

abbrev pub RunsCompare : {W : Type 0} → Compared → Option (List ℕ) → Option (List ℕ) → List ℕ → List ℕ → (W → Option (List ℕ)) → Output W → Output W → SinkState → SinkState → Result Verdict End → Type 0
RunsCompare what held_a held_b path_a path_b contents old new errors errors' result =
    WantsMemory old new errors errors' result ⊎ ComparesFiles what held_a held_b path_a path_b contents old new errors errors' result
