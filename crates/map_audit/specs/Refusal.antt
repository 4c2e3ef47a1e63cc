-- Why a level isn't accepted (ours).
use Rattle.map_level.specs.Level.{Level}
use Rattle.map_level.specs.Findings.{AreFindings}
use Rattle.map_tree.specs.Sound.{IsSound}
use Rattle.map_audit.specs.Findings.{AuditHolds}
use Rattle.map_audit.specs.declared.acceptance.Refused.{Refused}
use Rattle.map_audit.specs.declared.acceptance.Refused.TheVariants.{Faults, Memory}

-- it isn't sound, and the report is that of all its findings; or memory was refused
abbrev pub Refuses : {A : Type 0} → Level → Refused A → Type 0
Refuses level (Faults report) = (¬ IsSound level) × AreFindings (AuditHolds level) report
Refuses level Memory = Unit {0}
