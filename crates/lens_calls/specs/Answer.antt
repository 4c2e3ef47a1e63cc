-- The words of `wadlens` over files in memory (ours), and the status for how that ended.
use Rattle.std.specs.Prelude.{◌≡◌, ℕ, List, [], length, slice_index_or, Result, Ok, Err}
use Rattle.le_rec.specs.Sink.{SinkState}
use Rattle.lens_calls.specs.Asked.{Takes}
use Rattle.lens_calls.specs.Assembled.{AssemblesInput}
use Rattle.lens_calls.specs.Compared.{ComparesFiles}
use Rattle.lens_calls.specs.Cut.{CutsFile}
use Rattle.lens_calls.specs.Drawn.{DrawsFiles}
use Rattle.lens_calls.specs.Explained.{Explains}
use Rattle.lens_calls.specs.Listed.{ListsFile}
use Rattle.lens_calls.specs.Told.{TellsOver}
use Rattle.lens_calls.specs.declared.asked.LensFault.{LensFault}
use Rattle.lens_calls.specs.declared.asked.LensFault.TheVariants.{Usage, Full}
use Rattle.lens_calls.specs.declared.asked.LensRequest.{LensRequest}
use Rattle.lens_calls.specs.declared.asked.LensWord.{LensWord}
use Rattle.lens_calls.specs.declared.asked.LensWord.TheVariants as lens
use Rattle.lens_engines.specs.declared.judging.Rules.{Rules}
use Rattle.lens_engines.specs.declared.verdict.Verdict.{Verdict}
use Rattle.lens_reports.specs.Status.{status_of}

-- the file or the path at a place
abbrev pub one_at : List (List ℕ) → ℕ → List ℕ
one_at all place = slice_index_or all place []

-- what is asked of files was answered, and standard error took what the program writes to it
abbrev pub Answers : LensWord → Rules → ℕ → List (List ℕ) → List (List ℕ) → SinkState → SinkState → SinkState → SinkState → Verdict → Type 0
Answers (lens.Tell report) rules bases paths files out out' errors errors' verdict =
    TellsOver report rules bases paths files out out' errors errors' verdict
Answers (lens.Cut level) rules bases paths files out out' errors errors' verdict =
    CutsFile level (one_at paths 0) (one_at files 0) out out' errors errors' verdict
Answers (lens.Draw question) rules bases paths files out out' errors errors' verdict =
    DrawsFiles question paths files out out' errors errors' verdict
Answers lens.List rules bases paths files out out' errors errors' verdict =
    ListsFile (one_at paths 0) (one_at files 0) out out' errors errors' verdict
Answers (lens.Compare what) rules bases paths files out out' errors errors' verdict =
    ComparesFiles what (one_at paths 0) (one_at files 0) (one_at paths 1) (one_at files 1) out out' errors errors' verdict
Answers (lens.Explain code) rules bases paths files out out' errors errors' verdict = Explains code out out' verdict × (errors' ≡ errors)

-- the question can be asked of so many files, and was answered
pub record RunsLens (asked : LensRequest) (paths files : List (List ℕ)) (out out' errors errors' : SinkState) (verdict : Verdict) : Type 0 where
  pub takes : Takes asked.word asked.bases (length files)
  pub answers : Answers asked.word asked.rules asked.bases paths files out out' errors errors' verdict

-- it can't, and nothing was written
pub record RefusesLens {W E : Type 0} (asked : LensRequest) (files : List (List ℕ)) (out out' : W) (errors errors' : E) : Type 0 where
  pub none : ¬ Takes asked.word asked.bases (length files)
  pub untouched : out' ≡ out
  pub silent : errors' ≡ errors

-- one of the two, or there was no room for what is asked
abbrev pub DoesLens : {W E : Type 0} → (W → SinkState) → (E → SinkState) → LensRequest → List (List ℕ) → List (List ℕ) → W → W → E → E → Result Verdict LensFault → Type 0
DoesLens state estate asked paths files out out' errors errors' (Ok verdict) =
    RunsLens asked paths files (state out) (state out') (estate errors) (estate errors') verdict
DoesLens state estate asked paths files out out' errors errors' (Err Usage) = RefusesLens asked files out out' errors errors'
DoesLens state estate asked paths files out out' errors errors' (Err Full) = Takes asked.word asked.bases (length files)

-- a demo was put together from its listing, or the reason why not was reported, or there was no memory
abbrev pub DoesListing : List ℕ → SinkState → SinkState → SinkState → SinkState → Result Verdict LensFault → Type 0
DoesListing listing out out' errors errors' (Ok verdict) = AssemblesInput listing out out' errors errors' verdict
DoesListing listing out out' errors errors' (Err fault) = fault ≡ Full

-- the status of what was found, and 2 where nothing is asked
abbrev pub lens_status : Result Verdict LensFault → ℕ
lens_status (Ok verdict) = status_of verdict
lens_status (Err Usage) = 2
lens_status (Err Full) = 3
