-- The laws of this crate's definitions (ours).
use Rattle.std.specs.Prelude.{◌≡◌, ◌↔◌, ℕ, ◌<◌, ◌≤◌, ◌^◌, List, ◌++◌, ◌==◌, count_by, length, not, slice_index}
use Rattle.std.specs.List.{flat_map}
use Rattle.le_rec.specs.Sink.{SinkState}
use Rattle.level_starts.specs.Format.{IsFormat}
use Rattle.level_starts.specs.Starts.{LevelStartsAt}
use Rattle.level_starts.specs.declared.format.Format.TheVariants.{Doom}
use Rattle.map_audit.specs.Findings.{AuditHolds}
use Rattle.map_level.specs.Findings.{AreFindings, is_fault, rank}
use Rattle.map_level.specs.Level.{Level}
use Rattle.map_level.specs.Opening.{IsLevelAt}
use Rattle.map_level.specs.declared.finding.Code.{Code}
use Rattle.map_level.specs.declared.finding.Finding.{Finding}
use Rattle.map_tree.specs.Sound.{IsSound}
use Rattle.wad_dir.specs.Entries.{names}
use Rattle.wad_dir.specs.Wad.{Wad}
use Rattle.lens_engines.specs.Check.{CheckAsked, ChecksAll}
use Rattle.lens_engines.specs.Counts.{AreCounts, fault_total, note_total}
use Rattle.lens_texts.specs.Head.{Head}
use Rattle.lens_engines.specs.LevelLines.{AreTold, findings_part}
use Rattle.lens_texts.specs.LevelText.{finding_text, left_text, remark_text}
use Rattle.lens_engines.specs.ObjectValues.{HasSmallNumbers, doom_value, other_value, refused_value}
use Rattle.lens_texts.specs.Members.{IsLineOf}
use Rattle.lens_engines.specs.Objects.{doom_members, refused_object}
use Rattle.lens_texts.specs.LevelObject.{level_members, other_members}
use Rattle.lens_texts.specs.Unread.{unread_format}
use Rattle.lens_texts.specs.declared.unread.Unread.{Unread}
use Rattle.lens_engines.specs.declared.level_counts.LevelCounts.{LevelCounts}
use Rattle.lens_engines.specs.declared.object.FileRefusal.{FileRefusal}
use Rattle.lens_engines.specs.declared.totals.Totals.{Totals}

-- a level's counts have no fault exactly where the level is sound
abbrev pub FaultlessIsSound : Type 0
FaultlessIsSound = (level : Level) (counts : List ℕ) → AreCounts (AuditHolds level) counts → (fault_total counts ≡ 0) ↔ IsSound level

-- the counts are those of a list of findings: of each code, of the faults and of the notes
pub record CountFindings (counts : List ℕ) (found : List Finding) : Type 0 where
  pub each : (code : Code) → slice_index counts (rank code) ≡ count_by (λ f. rank f.code == rank code) found
  pub faults : fault_total counts ≡ count_by (λ f. is_fault f.code) found
  pub notes : note_total counts ≡ count_by (λ f. not (is_fault f.code)) found

-- a level's counts are those of its report
abbrev pub CountsAreOfTheReport : Type 0
CountsAreOfTheReport =
    (level : Level) (found : List Finding) (counts : List ℕ) → AreFindings (AuditHolds level) found → AreCounts (AuditHolds level) counts
    → CountFindings counts found

-- if as many findings of a code are shown as there are, a check writes the line, or the object, of each finding of the level's report, in its order
abbrev pub LinesAreOfTheReport : Type 0
LinesAreOfTheReport =
    (head : Head) (level : Level) (found : List Finding) (told : Code → List ℕ) → AreFindings (AuditHolds level) found
    → AreTold (AuditHolds level) told → (most : ℕ) → ((code : Code) → length (told code) ≤ most)
    → findings_part (remark_text head level) (left_text head) most told ≡ flat_map (finding_text head level) found

-- the object of a refused file is read as its members
abbrev pub RefusedIsRead : Type 0
RefusedIsRead = (path : List ℕ) (refusal : FileRefusal) → IsLineOf (refused_value path refusal) (refused_object path refusal)

-- so is that of a level that isn't judged
abbrev pub OtherIsRead : Type 0
OtherIsRead =
    (path name : List ℕ) (g : ℕ) (unread : Unread) → g < 2 ^ 64
    → IsLineOf (other_value path name g unread) (level_members path name g (unread_format unread) ++ other_members unread)

-- and that of a level of Doom's format
abbrev pub DoomIsRead : Type 0
DoomIsRead =
    (path name : List ℕ) (g : ℕ) (counted : LevelCounts) → g < 2 ^ 64 → HasSmallNumbers counted
    → IsLineOf (doom_value path name g counted) (level_members path name g Doom ++ doom_members counted)

-- what a survey writes of a file or a level is a line, which the kit's reader of JSON reads as one object of just these members in their order
pub record ObjectsAreRead : Type 0 where
  pub refused : RefusedIsRead
  pub other : OtherIsRead
  pub doom : DoomIsRead

-- a check of levels that are all of Doom's format counts no fault exactly where each of them is sound under the reading asked
abbrev pub CheckedIsSound : Type 0
CheckedIsSound =
    (asked : CheckAsked) (files : List Wad) (before after : SinkState) (totals : Totals) → ChecksAll asked files before after totals
    → ((g : ℕ) → LevelStartsAt (names files) g → IsFormat files g Doom)
    → (totals.faults ≡ 0) ↔ ((g : ℕ) (level : Level) → LevelStartsAt (names files) g → IsLevelAt files g asked.judging.reading level → IsSound level)
