-- Laws of audits (ours).
use Rattle.std.specs.Prelude.{◌≡◌, ◌≢◌, ◌↔◌, ℕ, List, Some, IsTrue}
use Rattle.std.specs.List.{slice_get}
use Rattle.wad_dir.specs.Wad.{Wad}
use Rattle.map_level.specs.Level.{Level}
use Rattle.map_level.specs.Findings.{AreFindings, NoFaultHolds, StandsBefore, is_fault}
use Rattle.map_level.specs.Laws.{OneList}
use Rattle.map_level.specs.Opening.{IsLevel}
use Rattle.map_level.specs.declared.finding.Code.{Code}
use Rattle.map_level.specs.declared.finding.Finding.{Finding}
use Rattle.map_level.specs.declared.reading.Reading.TheVariants.{Signed, Wide}
use Rattle.map_tree.specs.Sound.{IsSound}
use Rattle.map_audit.specs.Findings.{AuditHolds}
use Rattle.map_audit.specs.Readings.{AreFiles, KeepsSound}

-- a level is sound exactly where none of the faults F3 to F18 holds of it
abbrev pub SoundIsNoFault : Type 0
SoundIsNoFault =
    (level : Level)
    → IsSound level ↔ ((code : Code) (i : ℕ) → IsTrue (is_fault code) → ¬ AuditHolds level code i)

-- a level has at most one report
abbrev pub OneReport : Type 0
OneReport = (level : Level) → OneList (AuditHolds level)

-- the first finding of a report holds, and stands before all others that do
abbrev pub FirstStandsBefore : Type 0
FirstStandsBefore =
    (level : Level) (found : List Finding) (first : Finding)
    → AreFindings (AuditHolds level) found → slice_get found 0 ≡ Some first
    → AuditHolds level first.code first.index
    × ((other : Finding) → AuditHolds level other.code other.index → other ≢ first
    → StandsBefore first other)

-- if it is no fault, or there is none, no fault holds
abbrev pub FaultsStandFirst : Type 0
FaultsStandFirst =
    (level : Level) (found : List Finding) → AreFindings (AuditHolds level) found
    → ((first : Finding) → slice_get found 0 ≡ Some first → ¬ IsTrue (is_fault first.code))
    → NoFaultHolds (AuditHolds level)

-- if what files hold under a name is sound under the signed reading, it is sound under the wide one, with the same leaves and sectors
abbrev pub WideKeepsSound : Type 0
WideKeepsSound =
    (files : List Wad) (name : List ℕ) (signed wide : Level) → AreFiles files →
    IsLevel files name Signed signed → IsLevel files name Wide wide → IsSound signed
    → KeepsSound signed wide
