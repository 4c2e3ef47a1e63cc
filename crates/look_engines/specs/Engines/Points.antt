-- The command `points`: its answers (ours), and what its run does.
use Rattle.std.specs.Prelude.{◌≡◌, ℕ, ℤ, false, List, [], ◌∷◌, ◌++◌, Some, Result, codes}
use Rattle.std.specs.Fmt.{decimal}
use Rattle.le_rec.specs.Sink.{SinkState}
use Rattle.le_rec.specs.Source.{SourceState}
use Rattle.line_io.specs.AnswersLines.{AnswersLines}
use Rattle.line_io.specs.NumberAnswers.{AnswersPairs}
use Rattle.map_geo.specs.Point.{Point, point_at}
use Rattle.map_level.specs.Level.{Level}
use Rattle.map_level.specs.SectorOf.{sector_of}
use Rattle.map_tree.specs.Leaf.{IsLeaf}
use Rattle.map_level.specs.declared.reading.Reading.{Reading}
use Rattle.look_engines.specs.Contents.{AreCoordinates, pair_text}
use Rattle.look_engines.specs.Opening.{IsAccepted, RefusesAccepted}
use Rattle.look_engines.specs.Runs.{Runs}
use Rattle.look_engines.specs.declared.fault.RunFault.{RunFault}
use Rattle.look_engines.specs.declared.engines.points.Leaf.{Leaf}

-- ` sector <s> ssector <t>`
unfoldable pub leaf_text : Leaf → List ℕ
leaf_text leaf = codes " sector " ++ (decimal leaf.sector ++ (codes " ssector " ++ (decimal leaf.ssector ++ (10 ∷ []))))

-- `<x> <y> sector <s> ssector <t>`
abbrev pub point_text : ℤ → ℤ → Leaf → List ℕ
point_text x y leaf = pair_text x y (leaf_text leaf)

-- the answers to contents, where `leaf_of` gives the leaf in which a point lies
abbrev pub AnswersPoints : (Point → Leaf) → (List ℕ → List ℕ) → Type 0
AnswersPoints leaf_of = AnswersPairs AreCoordinates (λ x y text. text ≡ point_text x y (leaf_of (point_at x y)))

-- where the points of a level lie: each in its leaf, and in that leaf's sector
abbrev pub AreLeaves : Level → (Point → Leaf) → Type 0
AreLeaves level leaf_of =
    (point : Point) → IsLeaf level point (leaf_of point).ssector × (sector_of level (leaf_of point).ssector ≡ Some (leaf_of point).sector)

-- the answers to contents over a level
pub record TellsPoints (level : Level) (answer : List ℕ → List ℕ) : Type 0 where
  pub leaf_of : Point → Leaf
  pub are_leaves : AreLeaves level leaf_of
  pub answers : AnswersPoints leaf_of answer

-- a run over files of these bytes, a source and a sink, by their states
abbrev pub RunsPoints : {S W : Type 0} → (S → SourceState) → (W → SinkState) → List (List ℕ) → List ℕ → Reading → ℕ → S → S → W → W → Result (Unit {0}) RunFault → Type 0
RunsPoints source sink bytes name reading limit input input' out out' result =
    Runs (RefusesAccepted bytes name reading) ((input' ≡ input) × (out' ≡ out)) (IsAccepted bytes name reading)
    (λ level outcome. AnswersLines (TellsPoints level) false limit (source input) (source input') (sink out) (sink out') outcome) result
