-- How a run that tells what can be read of a level ends, as the host reads it (ours).
use Rattle.std.specs.Prelude.{◌≡◌, ◌≢◌, ◌⊎◌, ℕ, List}
use Rattle.wad_page.specs.Ended.{HandsOut, LacksRoom}
use Rattle.wad_page.specs.Sketched.{RefusesSketch, SketchesFile}
use Rattle.wad_page.specs.declared.Ended.{Ended}
use Rattle.wad_page.specs.declared.sketch.SketchFault.{SketchFault}
use Rattle.wad_page.specs.declared.sketch.SketchFault.TheVariants.{Memory}

-- just the numbers' bytes stand at the front of `out`
pub record Sketched (file : List ℕ) (entry : ℕ) (out out' : List ℕ) (ended : Ended) : Type 0 where
  pub list : List ℕ
  pub sketches : SketchesFile file entry list
  pub status : ended.status ≡ 0
  pub answer : HandsOut list out out' ended.answered
  pub silent : ended.told ≡ 0

-- there are none, for a reason that holds
pub record SketchesNone (file : List ℕ) (entry : ℕ) (out out' : List ℕ) (ended : Ended) : Type 0 where
  pub fault : SketchFault
  pub room : fault ≢ Memory
  pub refuses : RefusesSketch file entry fault
  pub status : ended.status ≡ 2
  pub answered : ended.answered ≡ 0
  pub silent : ended.told ≡ 0
  pub untouched : out' ≡ out

-- one of the two
abbrev pub AnswersSketch : List ℕ → ℕ → List ℕ → List ℕ → Ended → Type 0
AnswersSketch file entry out out' ended = Sketched file entry out out' ended ⊎ SketchesNone file entry out out' ended

-- or there was no room for it
abbrev pub SketchEnds : List ℕ → ℕ → List ℕ → List ℕ → Ended → Type 0
SketchEnds file entry out out' ended = LacksRoom ended ⊎ AnswersSketch file entry out out' ended
