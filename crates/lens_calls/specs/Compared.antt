-- What `compare` does over two files in memory (ours): it writes where their demos first differ, or reports why a file has none.
use Rattle.std.specs.Prelude.{◌≡◌, ◌⊎◌, ℕ, List, ◌++◌}
use Rattle.std.specs.Io.KnownBytes.{Appends}
use Rattle.demo_listings.specs.Differences.{AreSame, Differs}
use Rattle.demo_listings.specs.declared.meaning.Compared.{Compared}
use Rattle.later_demos.specs.Demo.{Demo}
use Rattle.le_rec.specs.Sink.{SinkState}
use Rattle.lens_calls.specs.FileDemo.{HasDemo, HasNone, TellsFile}
use Rattle.lens_engines.specs.declared.verdict.Verdict.{Verdict}
use Rattle.lens_engines.specs.declared.verdict.Verdict.TheVariants.{Clean, Faulty, Unjudged}

-- it was reported of two files why they have no demo
pub record TellsNone (path_a a path_b b : List ℕ) (errors errors' : SinkState) (verdict : Verdict) : Type 0 where
  pub text_a : List ℕ
  pub text_b : List ℕ
  pub of_a : TellsFile path_a a text_a
  pub of_b : TellsFile path_b b text_b
  pub message : Appends errors.taken errors'.taken (text_a ++ text_b)
  pub says : verdict ≡ Unjudged

-- nothing was written of demos of which all that is compared is the same
pub record FindsSame (what : Compared) (a b : Demo) (out out' : SinkState) (verdict : Verdict) : Type 0 where
  pub are : AreSame what a b
  pub untouched : out' ≡ out
  pub says : verdict ≡ Clean

-- where they first differ was written
pub record FindsOther (what : Compared) (a b : Demo) (out out' : SinkState) (verdict : Verdict) : Type 0 where
  pub text : List ℕ
  pub differs : Differs what a b text
  pub took : Appends out.taken out'.taken text
  pub says : verdict ≡ Faulty

abbrev pub ComparesDemos : Compared → Demo → Demo → SinkState → SinkState → Verdict → Type 0
ComparesDemos what a b out out' verdict = FindsSame what a b out out' verdict ⊎ FindsOther what a b out out' verdict

-- both files have demos
pub record ComparesBoth (what : Compared) (bytes_a bytes_b : List ℕ) (out out' errors errors' : SinkState) (verdict : Verdict) : Type 0 where
  pub a : Demo
  pub b : Demo
  pub of_a : HasDemo bytes_a a
  pub of_b : HasDemo bytes_b b
  pub silent : errors' ≡ errors
  pub tells : ComparesDemos what a b out out' verdict

-- one has none, or both have none
pub record RefusesOne (path_a a path_b b : List ℕ) (out out' errors errors' : SinkState) (verdict : Verdict) : Type 0 where
  pub none : HasNone a ⊎ HasNone b
  pub untouched : out' ≡ out
  pub told : TellsNone path_a a path_b b errors errors' verdict

abbrev pub ComparesFiles : Compared → List ℕ → List ℕ → List ℕ → List ℕ → SinkState → SinkState → SinkState → SinkState → Verdict → Type 0
ComparesFiles what path_a a path_b b out out' errors errors' verdict =
    RefusesOne path_a a path_b b out out' errors errors' verdict ⊎ ComparesBoth what a b out out' errors errors' verdict
