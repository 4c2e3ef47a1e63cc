-- The command `census`: its answers (ours), and what its run does.
use Rattle.std.specs.Prelude.{◌≡◌, ℕ, ℤ, true, List, [], ◌∷◌, ◌++◌, Result, codes}
use Rattle.std.specs.Fmt.{decimal, signed_decimal}
use Rattle.std.specs.List.{flat_map}
use Rattle.le_rec.specs.Sink.{SinkState}
use Rattle.le_rec.specs.Source.{SourceState}
use Rattle.line_io.specs.AnswersLines.{AnswersLines}
use Rattle.line_io.specs.NumberAnswers.{AnswersNumbers}
use Rattle.map_geo.specs.Point.{Point}
use Rattle.map_geo.specs.Rect.{Rect, IsRect, rect_at, point_count}
use Rattle.map_level.specs.Level.{Level}
use Rattle.map_level.specs.declared.reading.Reading.{Reading}
use Rattle.map_tree.specs.Counts.{ArePairs}
use Rattle.map_tree.specs.PlainCount.{TellsSectors, plain_count}
use Rattle.look_engines.specs.Opening.{IsAccepted, RefusesAccepted}
use Rattle.look_engines.specs.Runs.{Runs}
use Rattle.look_engines.specs.declared.fault.RunFault.{RunFault}

-- `<x0> <y0> <x1> <y1> points <n>`, and what follows
abbrev pub rect_text : Rect → List ℕ → List ℕ
rect_text rect rest =
    signed_decimal rect.x0 ++ (codes " " ++ (signed_decimal rect.y0 ++ (codes " " ++ (signed_decimal rect.x1 ++ (codes " " ++ (signed_decimal rect.y1
    ++ (codes " points " ++ (decimal (point_count rect) ++ rest))))))))

-- ` <sector>:<count>`
abbrev pub count_text : ℕ × ℕ → List ℕ
count_text pair = codes " " ++ (decimal pair.0 ++ (codes ":" ++ decimal pair.1))

-- the line of a rectangle and its pairs
abbrev pub counts_text : Rect → List (ℕ × ℕ) → List ℕ
counts_text rect pairs = rect_text rect (flat_map count_text pairs ++ 10 ∷ [])

-- four numbers are a rectangle's: its least column and row, and its greatest
abbrev pub AreRect : List ℤ → Type 0
AreRect (x0 ∷ y0 ∷ x1 ∷ y1 ∷ []) = IsRect (rect_at x0 y0 x1 y1)
AreRect _ = ⊥

-- the text of four numbers' rectangle, with each sector's plain count; `sector` gives the sector of each point
abbrev pub TellsCounts : (Point → ℕ) → List ℤ → List ℕ → Type 0
TellsCounts sector (x0 ∷ y0 ∷ x1 ∷ y1 ∷ []) text =
    (pairs : List (ℕ × ℕ)) → ArePairs (λ s. plain_count sector s (rect_at x0 y0 x1 y1)) pairs → text ≡ counts_text (rect_at x0 y0 x1 y1) pairs
TellsCounts sector _ text = ⊥

-- the answers to contents over a level
pub record TellsCensus (level : Level) (answer : List ℕ → List ℕ) : Type 0 where
  pub sector : Point → ℕ
  pub tells : TellsSectors level sector
  pub answers : AnswersNumbers 4 AreRect (TellsCounts sector) answer

-- a run over files of these bytes, a source and a sink, by their states
abbrev pub RunsCensus : {S W : Type 0} → (S → SourceState) → (W → SinkState) → List (List ℕ) → List ℕ → Reading → ℕ → S → S → W → W → Result (Unit {0}) RunFault → Type 0
RunsCensus source sink bytes name reading limit input input' out out' result =
    Runs (RefusesAccepted bytes name reading) ((input' ≡ input) × (out' ≡ out)) (IsAccepted bytes name reading)
    (λ level outcome. AnswersLines (TellsCensus level) true limit (source input) (source input') (sink out) (sink out') outcome) result
