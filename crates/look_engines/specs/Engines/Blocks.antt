-- The command `blocks`: its answers (ours), and what its run does.
use Rattle.std.specs.Prelude.{◌≡◌, ℕ, ◌<◌, ◌≤◌, ℤ, false, List, [], ◌∷◌, ◌++◌, length, Result, codes}
use Rattle.std.specs.Fmt.{decimal}
use Rattle.le_rec.specs.Sink.{SinkState}
use Rattle.le_rec.specs.Source.{SourceState}
use Rattle.line_io.specs.AnswersLines.{AnswersLines}
use Rattle.line_io.specs.NumberAnswers.{AnswersPairs}
use Rattle.map_geo.specs.Point.{point_at}
use Rattle.map_level.specs.Level.{Level}
use Rattle.map_level.specs.declared.reading.Reading.{Reading}
use Rattle.map_tables.specs.BlockMap.{BlockMap, IsBlockOf, block_map_of, block_number}
use Rattle.map_tables.specs.Words.{HasNoEnd, IsBlockList, IsOffsetOutside}
use Rattle.look_engines.specs.Contents.{AreCoordinates, pair_text}
use Rattle.look_engines.specs.Engines.Show.{numbers_text}
use Rattle.look_engines.specs.Opening.{IsOpened, RefusesName}
use Rattle.look_engines.specs.Runs.{Runs}
use Rattle.look_engines.specs.declared.fault.RunFault.{RunFault}
use Rattle.look_engines.specs.declared.fault.RunFault.TheVariants as fault

-- `<x> <y> no block`
abbrev pub no_block_text : ℤ → ℤ → List ℕ
no_block_text x y = pair_text x y (codes " no block" ++ 10 ∷ [])

-- `<x> <y> block <bx> <by>`, and what follows
abbrev pub block_text : ℤ → ℤ → ℕ → ℕ → List ℕ → List ℕ
block_text x y bx by rest = pair_text x y (codes " block " ++ (decimal bx ++ (codes " " ++ (decimal by ++ rest))))

-- ` lines` and each number of a list
abbrev pub lines_text : List ℤ → List ℕ
lines_text list = codes " lines" ++ (numbers_text list ++ 10 ∷ [])

-- ` fault <1 or 2>`
abbrev pub fault_text : ℕ → List ℕ
fault_text number = codes " fault " ++ (decimal number ++ 10 ∷ [])

-- the answer to a point: that no block holds it, or its block with the block's list or why that has none
pub record AnswersBlock (map : BlockMap) (x y : ℤ) (text : List ℕ) : Type 0 where
  pub none : ((bx by : ℕ) → ¬ IsBlockOf map (point_at x y) bx by) → text ≡ no_block_text x y
  pub lines : (bx by : ℕ) (list : List ℤ) → IsBlockOf map (point_at x y) bx by → IsBlockList map.words (block_number map bx by) list
      → text ≡ block_text x y bx by (lines_text list)
  pub outside : (bx by : ℕ) → IsBlockOf map (point_at x y) bx by → IsOffsetOutside map.words (block_number map bx by)
      → text ≡ block_text x y bx by (fault_text 1)
  pub no_end : (bx by : ℕ) → IsBlockOf map (point_at x y) bx by → HasNoEnd map.words (block_number map bx by)
      → text ≡ block_text x y bx by (fault_text 2)

-- the answers to contents
abbrev pub AnswersBlocks : BlockMap → (List ℕ → List ℕ) → Type 0
AnswersBlocks map = AnswersPairs AreCoordinates (AnswersBlock map)

-- the blockmap of the level of the files' name; a lump shorter than 8 bytes has none
pub record HasBlockMap (bytes : List (List ℕ)) (asked : List ℕ) (reading : Reading) (map : BlockMap) : Type 0 where
  pub level : Level
  pub opened : IsOpened bytes asked reading level
  pub long : 8 ≤ length level.blockmap
  pub is : map ≡ block_map_of reading level.blockmap

-- why there is none: the lump has fewer than 8 bytes
abbrev pub RefusesBlocks : List (List ℕ) → List ℕ → Reading → RunFault → Type 0
RefusesBlocks bytes asked reading fault.NoBlockMap = (level : Level) × IsOpened bytes asked reading level × (length level.blockmap < 8)
RefusesBlocks bytes asked reading fault = RefusesName bytes asked fault

-- a run over files of these bytes, a source and a sink, by their states
abbrev pub RunsBlocks : {S W : Type 0} → (S → SourceState) → (W → SinkState) → List (List ℕ) → List ℕ → Reading → ℕ → S → S → W → W → Result (Unit {0}) RunFault → Type 0
RunsBlocks source sink bytes asked reading limit input input' out out' result =
    Runs (RefusesBlocks bytes asked reading) ((input' ≡ input) × (out' ≡ out)) (HasBlockMap bytes asked reading)
    (λ map outcome. AnswersLines (AnswersBlocks map) false limit (source input) (source input') (sink out) (sink out') outcome) result
