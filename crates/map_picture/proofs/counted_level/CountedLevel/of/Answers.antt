use Rattle.std.proofs.Common.{subst}
use Rattle.map_audit.specs.Findings.{AuditHolds}
use Rattle.map_level.specs.Level.{Level}
use Rattle.map_picture.specs.Counts.{CountsFindings}
use Rattle.map_picture.proofs.counted_level.CountedLevel.of.Goals as goal

pub invariant_of-result : goal.invariant_of-result
invariant_of-result g c =
    let parts = c.in_ok-parts.ensures in
    (parts, subst (λ (level : Level). CountsFindings (AuditHolds level) c.count_findings-counts.result) parts c.count_findings-counts.ensures)
