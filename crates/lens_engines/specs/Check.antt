-- What `check` writes for a file (ours): the lines of its levels in the order of their labels, and their totals.
use Rattle.std.specs.Prelude.{◌≡◌, ◌⊎◌, ◌↔◌, ℕ, ◌+◌, Bool, true, false, IsTrue, List, [], ◌∷◌, ◌++◌, Option, Some, None, Result, Ok, Err, IfErr, IfOk}
use Rattle.std.specs.Io.KnownBytes.{Appends}
use Rattle.le_rec.specs.Sink.{SinkState}
use Rattle.level_starts.specs.Format.{IsFormat}
use Rattle.level_starts.specs.Order.{IsInPlace}
use Rattle.level_starts.specs.Starts.{IsNextStart, NoneStartsFrom}
use Rattle.level_starts.specs.declared.format.Format.TheVariants.{Doom}
use Rattle.line_io.specs.Writes.{TakesFront, Writes}
use Rattle.line_io.specs.declared.fault.IoFault.{IoFault}
use Rattle.map_level.specs.Level.{Level}
use Rattle.map_level.specs.Opening.{IsLevelAt}
use Rattle.map_level.specs.declared.finding.Code.{Code}
use Rattle.map_level.specs.declared.reading.Reading.{Reading}
use Rattle.map_level.specs.declared.reading.Reading.TheVariants.{Signed, Wide}
use Rattle.map_tree.specs.Sound.{IsSound}
use Rattle.wad_dir.specs.Entries.{names}
use Rattle.wad_dir.specs.Wad.{IsRead, Wad}
use Rattle.lens_texts.specs.Head.{Head}
use Rattle.lens_engines.specs.Failing.{HasFailing}
use Rattle.lens_engines.specs.Ignored.{HoldsUnlessIgnored}
use Rattle.lens_texts.specs.Label.{IsLabelOf}
use Rattle.lens_engines.specs.Left.{LeavesFile, LeavesLevel, WantsMemory}
use Rattle.lens_engines.specs.LevelLines.{AreCounted, AreTold, judged_text}
use Rattle.lens_texts.specs.LevelText.{unjudged_text}
use Rattle.lens_texts.specs.Order.{order_part}
use Rattle.lens_engines.specs.ReportCounts.{AreReportCounts}
use Rattle.lens_engines.specs.Survey.{graver}
use Rattle.lens_engines.specs.Totals.{format_totals, judged_totals, no_totals, totals_with, verdict_of_totals}
use Rattle.lens_engines.specs.Unlisted.{AreUnlisted}
use Rattle.lens_engines.specs.Unlooked.{AreUnlookedFor}
use Rattle.lens_engines.specs.Unread.{IsUnread}
use Rattle.lens_engines.specs.declared.unlisted.Unlisted.{Unlisted}
use Rattle.level_codes.specs.declared.set.CodeSet.{CodeSet}
use Rattle.lens_engines.specs.Warned.{AreAskedFor, Warned, known_files}
use Rattle.lens_engines.specs.declared.check.Question.{Question}
use Rattle.lens_texts.specs.declared.form.Form.{Form}
use Rattle.lens_engines.specs.declared.judging.Judging.{Judging}
use Rattle.lens_texts.specs.declared.label.LevelLabel.{LevelLabel}
use Rattle.lens_texts.specs.declared.unread.Unread.{Unread}
use Rattle.lens_texts.specs.declared.unread.Unread.TheVariants.{Incomplete}
use Rattle.lens_engines.specs.declared.totals.Totals.{Totals}
use Rattle.lens_engines.specs.declared.verdict.LevelsFault.{LevelsFault}
use Rattle.lens_engines.specs.declared.verdict.LevelsFault.TheVariants.{NoWad, Write, Memory}
use Rattle.lens_engines.specs.declared.verdict.Verdict.{Verdict}

-- how a run is asked for: its form, the file's path, how many findings of a code are shown at most, and how levels are judged
pub record CheckAsked : Type 0 where
  pub form : Form
  pub path : List ℕ
  pub most : ℕ
  pub judging : Judging

-- what a question asks
abbrev pub asked_of : Question → CheckAsked
asked_of question = record { form = question.form; path = question.path.now; most = question.most; judging = question.judging }

-- what each line or object of a level begins with
abbrev pub head_in : CheckAsked → LevelLabel → Head
head_in asked label = record { form = asked.form; path = asked.path; label = label }

-- the level at a label is sound under the wide reading, and isn't under the signed one
pub record IsSoundWideAlone (files : List Wad) (g : ℕ) (reading : Reading) (level : Level) : Type 0 where
  pub signed : reading ≡ Signed
  pub unsound : ¬ IsSound level
  pub wide : Level
  pub there : IsLevelAt files g Wide wide
  pub sound : IsSound wide

-- the text of a level of Doom's format: what the audit finds and isn't ignored, if they are asked for its warnings and which weren't looked for, and whether only
-- the wide reading finds it sound
pub record IsJudged (asked : CheckAsked) (files : List Wad) (g : ℕ) (label : LevelLabel) (text : List ℕ) (totals : Totals) : Type 0 where
  pub level : Level
  pub there : IsLevelAt files g asked.judging.reading level
  pub told : Code → List ℕ
  pub are_told : AreTold (HoldsUnlessIgnored asked.judging.ignored level) told
  pub warned : List Warned
  pub are_warned : AreAskedFor asked.judging (known_files asked.judging files) level asked.most warned
  pub counts : List ℕ
  pub are_counts : AreReportCounts asked.judging.ignored level warned counts
  pub counted : AreCounted counts told
  pub fails : Bool
  pub failing : IsTrue fails ↔ HasFailing asked.judging counts warned
  pub unlooked : CodeSet
  pub are_unlooked : AreUnlookedFor asked.judging (known_files asked.judging files) level unlooked
  pub unlisted : Unlisted
  pub are_unlisted : AreUnlisted asked.judging.ignored (known_files asked.judging files) unlisted
  pub sound_wide : Bool
  pub wide : IsTrue sound_wide ↔ IsSoundWideAlone files g asked.judging.reading level
  pub is : text ≡ judged_text (head_in asked label) asked.most (record { level = level; warned = warned; counts = counts; unlooked = unlooked }) told sound_wide
  pub adds : totals ≡ judged_totals counts fails unlooked unlisted

-- the lump that has the place of the first that a level lacks in its place, if all ten are there; none of another format
abbrev pub IsOrder : List (List ℕ) → ℕ → Unread → Option ℕ → Type 0
IsOrder names g (Incomplete k) (Some j) = IsInPlace names g k j
IsOrder names g (Incomplete k) None = (j : ℕ) → ¬ IsInPlace names g k j
IsOrder names g unread order = order ≡ None

-- the text of a level that isn't judged: its format, and that its lumps have another order, where they have
abbrev pub ordered_text : Head → Unread → Option ℕ → List ℕ
ordered_text head unread order = unjudged_text head unread ++ order_part head unread order

-- that is told of the level that starts at an entry
pub record IsUnjudged (asked : CheckAsked) (files : List Wad) (g : ℕ) (label : LevelLabel) (text : List ℕ) (totals : Totals) : Type 0 where
  pub unread : Unread
  pub of_level : IsUnread files g unread
  pub order : Option ℕ
  pub ordered : IsOrder (names files) g unread order
  pub is : text ≡ ordered_text (head_in asked label) unread order
  pub adds : totals ≡ format_totals unread

-- the text of a level: one of Doom's format is judged, and of another it is told why it isn't
abbrev pub IsToldBy : CheckAsked → List Wad → ℕ → LevelLabel → List ℕ → Totals → Type 0
IsToldBy asked files g label text totals =
    (IsFormat files g Doom × IsJudged asked files g label text totals) ⊎ IsUnjudged asked files g label text totals

-- the text of the level that starts at an entry
pub record IsLevelText (asked : CheckAsked) (files : List Wad) (g : ℕ) (text : List ℕ) (totals : Totals) : Type 0 where
  pub label : LevelLabel
  pub labelled : IsLabelOf files g label
  pub told : IsToldBy asked files g label text totals

-- the text of the levels that start below an entry, in order
pub data ToldTo (asked : CheckAsked) (files : List Wad) : ℕ → List ℕ → Totals → Type 0 where
  at_start : ToldTo asked files 0 [] no_totals
  with_level : (from : ℕ) (before : List ℕ) (sum : Totals) (g : ℕ) (text : List ℕ) (totals : Totals)
      → ToldTo asked files from before sum → IsNextStart (names files) from g → IsLevelText asked files g text totals
      → ToldTo asked files (g + 1) (before ++ text) (totals_with sum totals)

-- the text of all levels was written
pub record ChecksAll (asked : CheckAsked) (files : List Wad) (before after : SinkState) (totals : Totals) : Type 0 where
  pub from : ℕ
  pub text : List ℕ
  pub told : ToldTo asked files from text totals
  pub all : NoneStartsFrom (names files) from
  pub took : Appends before.taken after.taken text
  pub sound : after.failed ≡ false

-- the text of all levels before one was written, and a write failed within the text of that one; the verdict is that of all of them
pub record StopsWriting (asked : CheckAsked) (files : List Wad) (before after : SinkState) (found : Verdict) : Type 0 where
  pub from : ℕ
  pub text : List ℕ
  pub sum : Totals
  pub told : ToldTo asked files from text sum
  pub between : SinkState
  pub took : Appends before.taken between.taken text
  pub g : ℕ
  pub next : IsNextStart (names files) from g
  pub line : List ℕ
  pub totals : Totals
  pub is : IsLevelText asked files g line totals
  pub front : TakesFront between after line
  pub failed : after.failed ≡ true
  pub says : found ≡ graver (verdict_of_totals sum) (verdict_of_totals totals)

-- the text of all levels before one of Doom's format was written, and there was no memory to judge that one
pub record StopsJudging (asked : CheckAsked) (files : List Wad) (before after : SinkState) : Type 0 where
  pub from : ℕ
  pub text : List ℕ
  pub sum : Totals
  pub told : ToldTo asked files from text sum
  pub took : Appends before.taken after.taken text
  pub sound : after.failed ≡ false
  pub g : ℕ
  pub next : IsNextStart (names files) from g
  pub doom : IsFormat files g Doom

-- why the text of some levels is missing
abbrev pub ChecksSome : CheckAsked → List Wad → SinkState → SinkState → LevelsFault → Type 0
ChecksSome asked files before after (Write found) = StopsWriting asked files before after found
ChecksSome asked files before after Memory = StopsJudging asked files before after
ChecksSome asked files before after (NoWad why) = ⊥

-- a check of all levels of some files
pub record Checks (asked : CheckAsked) (files : List Wad) (before after : SinkState) (result : Result Totals LevelsFault) : Type 0 where
  pub all : IfOk result (ChecksAll asked files before after)
  pub some : IfErr result (ChecksSome asked files before after)

-- the end of a level's text: its totals, where the text was written
abbrev pub text_end : Totals → Result (Unit {0}) IoFault → Result Totals LevelsFault
text_end totals (Ok x) = Ok totals
text_end totals (Err fault) = Err (Write (verdict_of_totals totals))

-- a text was written whose level has these totals
pub record WritesText (Is : List ℕ → Totals → Type 0) (before after : SinkState) (result : Result Totals LevelsFault) : Type 0 where
  pub text : List ℕ
  pub totals : Totals
  pub is : Is text totals
  pub outcome : Result (Unit {0}) IoFault
  pub writes : Writes before after text outcome
  pub ended : result ≡ text_end totals outcome

-- the text of a level of Doom's format was written, or nothing was
abbrev pub ChecksDoom : {W : Type 0} → (W → SinkState) → CheckAsked → List Wad → ℕ → LevelLabel → W → W → Result Totals LevelsFault → Type 0
ChecksDoom state asked files g label out out' result =
    WantsMemory out out' result ⊎ WritesText (IsJudged asked files g label) (state out) (state out') result

-- the text of any level was written, or nothing was
abbrev pub ChecksLevel : {W : Type 0} → (W → SinkState) → CheckAsked → List Wad → ℕ → W → W → Result Totals LevelsFault → Type 0
ChecksLevel state asked files g out out' result =
    LeavesLevel files g out out' result ⊎ WritesText (IsLevelText asked files g) (state out) (state out') result

-- all levels were checked, or nothing was written for want of memory
abbrev pub ChecksOrWants : {W : Type 0} → (W → SinkState) → CheckAsked → List Wad → W → W → Result Totals LevelsFault → Type 0
ChecksOrWants state asked files out out' result = WantsMemory out out' result ⊎ Checks asked files (state out) (state out') result

-- the file's levels were checked
pub record ChecksFile (asked : CheckAsked) (bytes : List ℕ) (before after : SinkState) (result : Result Totals LevelsFault) : Type 0 where
  pub file : Wad
  pub of_bytes : file.bytes ≡ bytes
  pub read : IsRead file
  pub does : Checks asked (file ∷ []) before after result

-- a check of a file of these bytes, into a sink by its state
abbrev pub RunsCheck : {W : Type 0} → (W → SinkState) → CheckAsked → List ℕ → W → W → Result Totals LevelsFault → Type 0
RunsCheck state asked bytes out out' result =
    LeavesFile bytes out out' result ⊎ ChecksFile asked bytes (state out) (state out') result
