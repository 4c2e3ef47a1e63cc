-- The laws of this crate's definitions (ours).
use Rattle.std.specs.Prelude.{◌≡◌, ◌≢◌, ◌↔◌, ℕ, ◌≤◌, ℤ, List, [], ◌∷◌, ◌++◌, IsTrue, Some}
use Rattle.std.specs.List.{slice_get}
use Rattle.le_rec.specs.Name.{query_of}
use Rattle.line_io.specs.LineAnswers.{line_answer}
use Rattle.line_io.specs.Lines.{lines}
use Rattle.line_io.specs.Numbers.{AreNumbers, printed}
use Rattle.map_geo.specs.Point.{IsInRange, point_at}
use Rattle.map_audit.specs.Findings.{AuditHolds}
use Rattle.map_level.specs.Findings.{is_fault}
use Rattle.map_level.specs.Level.{Level, level_of}
use Rattle.map_level.specs.Opening.{AreLumps, IsLevel}
use Rattle.map_level.specs.SectorOf.{sector_of}
use Rattle.map_level.specs.declared.finding.Code.{Code}
use Rattle.map_level.specs.declared.finding.Finding.{Finding}
use Rattle.map_level.specs.declared.reading.Reading.{Reading}
use Rattle.map_tables.specs.BlockMap.{BlockMap}
use Rattle.map_tables.specs.Reject.{Reject}
use Rattle.map_tree.specs.Leaf.{IsLeaf}
use Rattle.map_tree.specs.Sound.{IsSound}
use Rattle.wad_dir.specs.Directory.{HasDirectory}
use Rattle.wad_dir.specs.Wad.{Wad}
use Rattle.look_engines.specs.Engines.Audit.{AreAuditFindings, fault_count}
use Rattle.look_engines.specs.Engines.Blocks.{AnswersBlocks}
use Rattle.look_engines.specs.Engines.Census.{TellsCensus}
use Rattle.look_engines.specs.Engines.Extract.{IsPacked}
use Rattle.look_engines.specs.Engines.Points.{TellsPoints, point_text}
use Rattle.look_engines.specs.Engines.Sight.{AnswersSight}
use Rattle.look_engines.specs.Opening.{AreRead, IsOpened}

-- over a sound level every content has an answer
abbrev pub PointsAreAnswered : Type 0
PointsAreAnswered = (level : Level) → IsSound level → (answer : List ℕ → List ℕ) × TellsPoints level answer

-- and one of `census`
abbrev pub CensusIsAnswered : Type 0
CensusIsAnswered = (level : Level) → IsSound level → (answer : List ℕ → List ℕ) × TellsCensus level answer

-- over each level's bits every content has an answer of `sight`
abbrev pub SightIsAnswered : Type 0
SightIsAnswered = (reject : Reject) → (answer : List ℕ → List ℕ) × AnswersSight reject answer

-- the text is the line of a point: it names an ssector and a sector, the ssector is the point's leaf, the only one, and the
-- sector is that ssector's
abbrev pub NamesTheLeaf : Level → ℤ → ℤ → List ℕ → Type 0
NamesTheLeaf level x y text =
    (t : ℕ) × (s : ℕ) × (text ≡ point_text x y (record { ssector = t; sector = s }))
    × IsLeaf level (point_at x y) t × ((u : ℕ) → IsLeaf level (point_at x y) u → u ≡ t) × (sector_of level t ≡ Some s)

-- over a sound level the answer to a content of two coordinates is the line of their point
abbrev pub LinesNameTheLeaf : Type 0
LinesNameTheLeaf =
    (level : Level) (answer : List ℕ → List ℕ) → IsSound level → TellsPoints level answer
    → (content : List ℕ) (x y : ℤ) → AreNumbers content (x ∷ y ∷ []) → IsInRange x → IsInRange y
    → NamesTheLeaf level x y (answer content)

-- the coordinates of a point in range, as they are printed, are a line
abbrev pub PointsAreLines : Type 0
PointsAreLines = (x y : ℤ) → IsInRange x → IsInRange y → lines (printed (x ∷ y ∷ []) ++ 10 ∷ []) ≡ printed (x ∷ y ∷ []) ∷ []

-- over a sound level the answer to that line is the line of the point
abbrev pub EachPointIsAnswered : Type 0
EachPointIsAnswered =
    (level : Level) (answer : List ℕ → List ℕ) → IsSound level → TellsPoints level answer
    → (x y : ℤ) → IsInRange x → IsInRange y → NamesTheLeaf level x y (line_answer answer (printed (x ∷ y ∷ [])))

-- what `extract` writes is a WAD; its label opens there as entry 0, with the ten lumps that it has in the files, where none
-- of the ten has the label's name
abbrev pub ExtractedOpens : Type 0
ExtractedOpens =
    (bytes : List (List ℕ)) (asked file : List ℕ) (was : IsPacked bytes asked file) (reading : Reading)
    → ((k : ℕ) → 1 ≤ k → k ≤ 10 → slice_get was.has.level.names k ≢ Some (query_of asked))
    → (wad : Wad) × AreRead (file ∷ []) (wad ∷ []) × AreLumps (wad ∷ []) 0 was.has.lumps
    × IsLevel (wad ∷ []) (query_of asked) reading (level_of 0 reading was.has.level.names was.has.lumps)

abbrev pub ExtractedIsAWad : Type 0
ExtractedIsAWad = (bytes : List (List ℕ)) (asked file : List ℕ) → IsPacked bytes asked file → HasDirectory file

-- every content has an answer of `blocks`, whatever BLOCKMAP holds
abbrev pub BlocksAreAnswered : Type 0
BlocksAreAnswered = (map : BlockMap) → (answer : List ℕ → List ℕ) × AnswersBlocks map answer

-- the findings on a name have no fault exactly where there is a level of the name and no F code holds of it
abbrev pub FaultlessIsNoFault : Type 0
FaultlessIsNoFault =
    (bytes : List (List ℕ)) (asked : List ℕ) (reading : Reading) (findings : List Finding) → AreAuditFindings bytes asked reading findings
    → (fault_count findings ≡ 0)
    ↔ ((level : Level) × IsOpened bytes asked reading level × ((code : Code) (i : ℕ) → IsTrue (is_fault code) → ¬ AuditHolds level code i))
