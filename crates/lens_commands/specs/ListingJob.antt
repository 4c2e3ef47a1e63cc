-- What the run of `listing` does (ours): it writes the listing of a file's demo, or reports why the file holds none.
use Rattle.std.specs.Prelude.{◌≡◌, ◌⊎◌, ℕ, List, Option, Result, Err}
use Rattle.demo_listings.specs.Listing.{listing}
use Rattle.later_demos.specs.Demo.{Demo}
use Rattle.le_rec.specs.Sink.{SinkState}
use Rattle.lens_reports.specs.Job.{TellsRest, WantsMemory}
use Rattle.lens_commands.specs.GivenDemo.{HasDemo, HasNone, IsGiven, TellsGiven}
use Rattle.lens_commands.specs.declared.given.Given.{Given}
use Rattle.lens_reports.specs.declared.end.End.{End}
use Rattle.lens_reports.specs.declared.end.End.TheVariants as end
use Rattle.lens_reports.specs.declared.output.Output.{Output}
use Rattle.line_io.specs.Writes.{Writes}
use Rattle.line_io.specs.declared.fault.IoFault.{IoFault}
use Rattle.lens_engines.specs.declared.verdict.Verdict.{Verdict}
use Rattle.lens_engines.specs.declared.verdict.Verdict.TheVariants.{Clean}

-- the file has a demo, whose listing is written
pub record ListsDemo {W : Type 0} (given : Given) (contents : W → Option (List ℕ)) (old new : Output W) (errors errors' : SinkState) (result : Result Verdict End) : Type 0 where
  pub demo : Demo
  pub of : HasDemo given demo
  pub silent : errors' ≡ errors
  pub tells : TellsRest contents (listing demo) Clean old new result

-- what is told of it was written
pub record ToldOne (path : List ℕ) (given : Given) (errors errors' : SinkState) : Type 0 where
  pub outcome : Result (Unit {0}) IoFault
  pub text : List ℕ
  pub of : TellsGiven path given text
  pub told : Writes errors errors' text outcome

-- it has none, and this was reported
pub record RefusesFile {W : Type 0} (path : List ℕ) (given : Given) (old new : Output W) (errors errors' : SinkState) (result : Result Verdict End) : Type 0 where
  pub none : HasNone given
  pub told : ToldOne path given errors errors'
  pub untouched : new ≡ old
  pub ended : result ≡ Err end.Refused

-- the file was read, or refused
pub record ListsFile {W : Type 0} (held : Option (List ℕ)) (path : List ℕ) (contents : W → Option (List ℕ)) (old new : Output W) (errors errors' : SinkState) (result : Result Verdict End) : Type 0 where
  pub given : Given
  pub is : IsGiven held given
  pub does : ListsDemo given contents old new errors errors' result ⊎ RefusesFile path given old new errors errors' result

abbrev pub RunsListing : {W : Type 0} → Option (List ℕ) → List ℕ → (W → Option (List ℕ)) → Output W → Output W → SinkState → SinkState → Result Verdict End → Type 0
RunsListing held path contents old new errors errors' result =
    WantsMemory old new errors errors' result ⊎ ListsFile held path contents old new errors errors' result
