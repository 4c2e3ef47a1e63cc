-- The first fault of a level (ours).
use Rattle.std.specs.Prelude.{◌≢◌, IsTrue}
use Rattle.map_level.specs.Level.{Level}
use Rattle.map_level.specs.Findings.{StandsBefore, is_fault}
use Rattle.map_level.specs.declared.finding.Finding.{Finding}
use Rattle.map_audit.specs.Findings.{AuditHolds}

-- a fault holds of a level, and stands before all others that do
pub record IsFirstFault (level : Level) (first : Finding) : Type 0 where
  pub fault : IsTrue (is_fault first.code)
  pub holds : AuditHolds level first.code first.index
  pub before : (other : Finding) → IsTrue (is_fault other.code) → AuditHolds level other.code other.index
      → other ≢ first → StandsBefore first other
