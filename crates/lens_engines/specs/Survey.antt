-- The survey of a file (ours): the line of each level, in the order of their labels, and what a survey says of the file.
use Rattle.std.specs.Prelude.{◌≡◌, ◌⊎◌, ◌↔◌, ℕ, ◌<◌, ◌==◌, true, false, List, [], ◌∷◌, ◌++◌, AllPairs, Contains, IfOk, IfErr, Result, Ok, Err, Some, None, fold, length, if◌then◌else◌}
use Rattle.std.specs.Io.KnownBytes.{Appends}
use Rattle.std.specs.List.{flat_map, slice_get}
use Rattle.le_rec.specs.Sink.{SinkState}
use Rattle.level_starts.specs.Format.{IsFormat}
use Rattle.level_starts.specs.Starts.{IsNextStart, LevelStartsAt}
use Rattle.level_starts.specs.declared.format.Format.TheVariants.{Doom}
use Rattle.line_io.specs.Writes.{TakesFront, Writes}
use Rattle.line_io.specs.declared.fault.IoFault.{IoFault}
use Rattle.wad_dir.specs.Entries.{names}
use Rattle.wad_dir.specs.Wad.{IsRead, Wad}
use Rattle.lens_engines.specs.Counts.{fault_total}
use Rattle.lens_engines.specs.Left.{LeavesFile, LeavesLevel, WantsMemory}
use Rattle.lens_engines.specs.Surveyed.{SurveyedAt, survey_line}
use Rattle.lens_engines.specs.declared.judging.Judging.{Judging}
use Rattle.lens_engines.specs.declared.level_counts.LevelCounts.{LevelCounts}
use Rattle.lens_engines.specs.declared.surveyed.Surveyed.{Surveyed}
use Rattle.lens_engines.specs.declared.surveyed.Surveyed.TheVariants as surveyed
use Rattle.lens_engines.specs.declared.verdict.LevelsFault.{LevelsFault}
use Rattle.lens_engines.specs.declared.verdict.LevelsFault.TheVariants.{NoWad, Write, Memory}
use Rattle.lens_engines.specs.declared.verdict.Verdict.{Verdict}
use Rattle.lens_engines.specs.declared.verdict.Verdict.TheVariants.{Clean, Unjudged, Faulty}
use Rattle.lens_texts.specs.declared.unread.Unread.{Unread}
use Rattle.lens_texts.specs.declared.unread.Unread.TheVariants.{Udmf, Incomplete, Hexen, Outside, Extended}

-- the graver of two verdicts
abbrev pub graver : Verdict → Verdict → Verdict
graver Faulty other = Faulty
graver Unjudged Faulty = Faulty
graver Unjudged other = Unjudged
graver Clean other = other

-- a fault after levels with a verdict: a failed write has the graver of both
abbrev pub fault_after : Verdict → LevelsFault → LevelsFault
fault_after before (NoWad why) = NoWad why
fault_after before (Write found) = Write (graver before found)
fault_after before Memory = Memory

-- the verdict on a level that isn't judged: a lump that isn't there or isn't inside its file is a fault, so are broken nodes, and a format that isn't read
-- isn't judged
abbrev pub verdict_of_format : Unread → Verdict
verdict_of_format Udmf = Unjudged
verdict_of_format (Incomplete k) = Faulty
verdict_of_format Hexen = Unjudged
verdict_of_format (Outside k) = Faulty
verdict_of_format (Extended tag None) = Unjudged
verdict_of_format (Extended tag (Some why)) = Faulty

-- the verdict by a level's counts
abbrev pub verdict_of_counts : List ℕ → Verdict
verdict_of_counts counts = if fault_total counts == 0 then Clean else Faulty

-- the verdict on a level of Doom's format: by its faults, and by what is as grave
abbrev pub verdict_of_level : LevelCounts → Verdict
verdict_of_level counted = if counted.fails then Faulty else verdict_of_counts counted.counts

-- the verdict on a level
abbrev pub verdict_of : Surveyed → Verdict
verdict_of (surveyed.Judged counted) = verdict_of_level counted
verdict_of (surveyed.Unjudged unjudged) = verdict_of_format unjudged.unread

-- the report on a level
pub record ToldLevel : Type 0 where
  pub line : List ℕ
  pub verdict : Verdict

-- the report on the level that starts at an entry
pub record IsTold (path : List ℕ) (files : List Wad) (judging : Judging) (g : ℕ) (told : ToldLevel) : Type 0 where
  pub surveyed : Surveyed
  pub is : SurveyedAt files judging g surveyed
  pub name : List ℕ
  pub named : slice_get (names files) g ≡ Some name
  pub line : told.line ≡ survey_line path name g surveyed
  pub says : told.verdict ≡ verdict_of surveyed

-- the reports on the levels that start at some entries, in their order
abbrev pub AreTold : List ℕ → List Wad → Judging → List ℕ → List ToldLevel → Type 0
AreTold path files judging [] [] = Unit {0}
AreTold path files judging (g ∷ starts) (told ∷ others) = IsTold path files judging g told × AreTold path files judging starts others
AreTold path files judging _ _ = ⊥

-- all entries below a number at which levels start, ascending
pub record AreStartsBelow (names : List (List ℕ)) (end : ℕ) (starts : List ℕ) : Type 0 where
  pub ascending : AllPairs (λ a b. a < b) starts
  pub exact : (g : ℕ) → Contains starts g ↔ (LevelStartsAt names g × (g < end))

-- the reports on the levels that start below an entry
pub record AreToldBelow (path : List ℕ) (files : List Wad) (judging : Judging) (end : ℕ) (told : List ToldLevel) : Type 0 where
  pub starts : List ℕ
  pub are : AreStartsBelow (names files) end starts
  pub each : AreTold path files judging starts told

-- their lines
abbrev pub lines_of : List ToldLevel → List ℕ
lines_of told = flat_map (λ one. one.line) told

-- the gravest of their verdicts
abbrev pub gravest : List ToldLevel → Verdict
gravest told = fold (λ verdict one. graver verdict one.verdict) Clean told

-- all levels were reported on, and their lines were taken
pub record SurveysAll (path : List ℕ) (files : List Wad) (judging : Judging) (before after : SinkState) (verdict : Verdict) : Type 0 where
  pub told : List ToldLevel
  pub are : AreToldBelow path files judging (length (names files)) told
  pub took : Appends before.taken after.taken (lines_of told)
  pub sound : after.failed ≡ false
  pub says : verdict ≡ gravest told

-- the lines of all but the last of these levels were taken, and a write failed within that of the last
pub record StopsWriting (before after : SinkState) (told : List ToldLevel) (found : Verdict) : Type 0 where
  pub whole : List ToldLevel
  pub last : ToldLevel
  pub are : told ≡ whole ++ last ∷ []
  pub between : SinkState
  pub took : Appends before.taken between.taken (lines_of whole)
  pub front : TakesFront between after last.line
  pub failed : after.failed ≡ true
  pub says : found ≡ gravest told

-- their lines were taken, and there was no memory to judge the next level, which is of Doom's format
pub record StopsJudging (files : List Wad) (end : ℕ) (before after : SinkState) (told : List ToldLevel) : Type 0 where
  pub took : Appends before.taken after.taken (lines_of told)
  pub sound : after.failed ≡ false
  pub g : ℕ
  pub next : IsNextStart (names files) end g
  pub doom : IsFormat files g Doom

-- how a survey stops behind the levels below an entry: within the line of the last of them, or before the next one
abbrev pub StopsLines : List Wad → ℕ → SinkState → SinkState → List ToldLevel → LevelsFault → Type 0
StopsLines files end before after told (Write found) = StopsWriting before after told found
StopsLines files end before after told Memory = StopsJudging files end before after told
StopsLines files end before after told (NoWad why) = ⊥

-- the levels up to some entry were reported on, and no others
pub record SurveysSome (path : List ℕ) (files : List Wad) (judging : Judging) (before after : SinkState) (fault : LevelsFault) : Type 0 where
  pub end : ℕ
  pub told : List ToldLevel
  pub are : AreToldBelow path files judging end told
  pub stops : StopsLines files end before after told fault

-- a survey of all levels of some files
pub record Surveys (path : List ℕ) (files : List Wad) (judging : Judging) (before after : SinkState) (result : Result Verdict LevelsFault) : Type 0 where
  pub all : IfOk result (SurveysAll path files judging before after)
  pub some : IfErr result (SurveysSome path files judging before after)

-- all levels were surveyed, or nothing was written for want of memory
abbrev pub SurveysOrWants : {W : Type 0} → (W → SinkState) → List ℕ → List Wad → Judging → W → W → Result Verdict LevelsFault → Type 0
SurveysOrWants state path files judging out out' result =
    WantsMemory out out' result ⊎ Surveys path files judging (state out) (state out') result

-- the file's levels were surveyed
pub record SurveysFile (path bytes : List ℕ) (judging : Judging) (before after : SinkState) (result : Result Verdict LevelsFault) : Type 0 where
  pub file : Wad
  pub of_bytes : file.bytes ≡ bytes
  pub read : IsRead file
  pub does : Surveys path (file ∷ []) judging before after result

-- a survey of a file of these bytes, into a sink by its state
abbrev pub RunsSurvey : {W : Type 0} → (W → SinkState) → List ℕ → List ℕ → Judging → W → W → Result Verdict LevelsFault → Type 0
RunsSurvey state path bytes judging out out' result =
    LeavesFile bytes out out' result ⊎ SurveysFile path bytes judging (state out) (state out') result

-- the end of a level's line: its verdict, where the line was written
abbrev pub line_end : Verdict → Result (Unit {0}) IoFault → Result Verdict LevelsFault
line_end verdict (Ok x) = Ok verdict
line_end verdict (Err fault) = Err (Write verdict)

-- a line was written whose level has this verdict
pub record WritesLine (before after : SinkState) (line : List ℕ) (verdict : Verdict) (result : Result Verdict LevelsFault) : Type 0 where
  pub outcome : Result (Unit {0}) IoFault
  pub writes : Writes before after line outcome
  pub ended : result ≡ line_end verdict outcome

-- the line of a level was written
pub record WritesLevel (path : List ℕ) (files : List Wad) (judging : Judging) (g : ℕ) (before after : SinkState) (result : Result Verdict LevelsFault) : Type 0 where
  pub told : ToldLevel
  pub is : IsTold path files judging g told
  pub writes : WritesLine before after told.line told.verdict result

-- or nothing was
abbrev pub SurveysLevel : {W : Type 0} → (W → SinkState) → List ℕ → List Wad → Judging → ℕ → W → W → Result Verdict LevelsFault → Type 0
SurveysLevel state path files judging g out out' result =
    LeavesLevel files g out out' result ⊎ WritesLevel path files judging g (state out) (state out') result
