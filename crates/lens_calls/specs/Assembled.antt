-- What `assemble` does over an input in memory (ours): the demo of a listing is written, or the wrong line is reported.
use Rattle.std.specs.Prelude.{◌≡◌, ◌⊎◌, ℕ, ◌<◌, ◌≤◌, List, codes, length}
use Rattle.std.specs.Io.KnownBytes.{Appends}
use Rattle.demo_engines.specs.Assembly.{IsAssembled, RefusesListing as RefusesText}
use Rattle.demo_engines.specs.declared.assembly.Wanted.{Wanted}
use Rattle.le_rec.specs.Sink.{SinkState}
use Rattle.lens_calls.specs.Why.{TellsWhy}
use Rattle.lens_commands.specs.AssembleJob.{line_text}
use Rattle.lens_engines.specs.declared.object.FileRefusal.TheVariants.{TooLarge}
use Rattle.lens_engines.specs.declared.verdict.Verdict.{Verdict}
use Rattle.lens_engines.specs.declared.verdict.Verdict.TheVariants.{Clean, Unjudged}
use Rattle.lens_reports.specs.Run.{refusal_line}
use Rattle.line_io.specs.declared.input.TheConstants.{MAX_READ}

-- the demo of the listing was written
pub record AssemblesDemo (listing : List ℕ) (out out' errors errors' : SinkState) (verdict : Verdict) : Type 0 where
  pub text : List ℕ
  pub is : IsAssembled listing text
  pub took : Appends out.taken out'.taken text
  pub silent : errors' ≡ errors
  pub says : verdict ≡ Clean

-- the text is no listing: the number of its first wrong line was reported, and what is wanted there
pub record RefusesListing (listing : List ℕ) (out out' errors errors' : SinkState) (verdict : Verdict) : Type 0 where
  pub number : ℕ
  pub wanted : Wanted
  pub why : RefusesText listing number wanted
  pub tells : TellsWhy (line_text number wanted) Unjudged out out' errors errors' verdict

abbrev pub AssemblesListing : List ℕ → SinkState → SinkState → SinkState → SinkState → Verdict → Type 0
AssemblesListing listing out out' errors errors' verdict =
    RefusesListing listing out out' errors errors' verdict ⊎ AssemblesDemo listing out out' errors errors' verdict

-- the input is larger than what is read, and this was reported
pub record RefusesLarge (input : List ℕ) (out out' errors errors' : SinkState) (verdict : Verdict) : Type 0 where
  pub large : MAX_READ < length input
  pub tells : TellsWhy (refusal_line (codes "standard input") TooLarge) Unjudged out out' errors errors' verdict

-- it isn't, and its demo was put together
pub record AssemblesRead (input : List ℕ) (out out' errors errors' : SinkState) (verdict : Verdict) : Type 0 where
  pub few : length input ≤ MAX_READ
  pub does : AssemblesListing input out out' errors errors' verdict

abbrev pub AssemblesInput : List ℕ → SinkState → SinkState → SinkState → SinkState → Verdict → Type 0
AssemblesInput input out out' errors errors' verdict =
    RefusesLarge input out out' errors errors' verdict ⊎ AssemblesRead input out out' errors errors' verdict
