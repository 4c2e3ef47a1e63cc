-- The command `sight`: its answers (ours), and what its run does.
use Rattle.std.specs.Prelude.{◌≡◌, ℕ, ℤ, pos, Bool, true, false, List, [], ◌∷◌, ◌++◌, length, Option, Some, None, Result, codes}
use Rattle.le_rec.specs.Sink.{SinkState}
use Rattle.le_rec.specs.Source.{SourceState}
use Rattle.line_io.specs.AnswersLines.{AnswersLines}
use Rattle.line_io.specs.NumberAnswers.{AnswersPairs}
use Rattle.map_level.specs.Level.{Level}
use Rattle.map_level.specs.declared.reading.Reading.TheVariants.{Signed}
use Rattle.map_tables.specs.Reject.{Reject, bits_of, sight_bit}
use Rattle.look_engines.specs.Contents.{AreSectors, pair_text}
use Rattle.look_engines.specs.Opening.{IsOpened, RefusesName}
use Rattle.look_engines.specs.Runs.{Runs}
use Rattle.look_engines.specs.declared.fault.RunFault.{RunFault}

-- what a bit says of sight, where it is there
abbrev pub bit_text : Option Bool → List ℕ
bit_text (Some false) = codes "clear"
bit_text (Some true) = codes "blocked"
bit_text None = codes "unknown"

-- `<a> <b> <clear, blocked or unknown>`
abbrev pub sight_text : ℤ → ℤ → Option Bool → List ℕ
sight_text a b bit = pair_text a b (codes " " ++ (bit_text bit ++ 10 ∷ []))

-- the text for two sectors has their bit
abbrev pub TellsSight : Reject → ℤ → ℤ → List ℕ → Type 0
TellsSight reject x y text = (a b : ℕ) → x ≡ pos a → y ≡ pos b → text ≡ sight_text x y (sight_bit reject a b)

-- the answers to contents
abbrev pub AnswersSight : Reject → (List ℕ → List ℕ) → Type 0
AnswersSight reject = AnswersPairs (AreSectors reject.sectors) (TellsSight reject)

-- the bits of a level, for each pair of its sectors
abbrev pub reject_of : Level → Reject
reject_of level = record { bits = bits_of level.reject; sectors = length level.sectors.records }

-- a run over files of these bytes, a source and a sink, by their states
abbrev pub RunsSight : {S W : Type 0} → (S → SourceState) → (W → SinkState) → List (List ℕ) → List ℕ → ℕ → S → S → W → W → Result (Unit {0}) RunFault → Type 0
RunsSight source sink bytes asked limit input input' out out' result =
    Runs (RefusesName bytes asked) ((input' ≡ input) × (out' ≡ out)) (IsOpened bytes asked Signed)
    (λ level outcome. AnswersLines (AnswersSight (reject_of level)) false limit (source input) (source input') (sink out) (sink out') outcome) result
