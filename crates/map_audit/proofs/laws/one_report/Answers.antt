use Rattle.map_level.proofs.OneListLemmas.{AreFindings-one}
use Rattle.map_audit.specs.Findings.{AuditHolds}
use Rattle.map_audit.proofs.laws.one_report.Goals as goal

pub returns : goal.returns
returns c level = AreFindings-one (AuditHolds level)
