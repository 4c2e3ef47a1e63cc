use Rattle.look_engines.proofs.engines.AuditLemmas.{missing_tells, outside_tells}
use Rattle.look_engines.proofs.engines.audit.write_audited.Goals as goal

pub returns-in-Missing : goal.returns-in-Missing
returns-in-Missing g c =
    rw c.in-Missing.is (missing_tells _ _ _ c.write_lone.result c.write_lone.ensures.writes c.write_lone.ensures.fault)

pub returns-in-Outside : goal.returns-in-Outside
returns-in-Outside g c =
    rw c.in-Outside.is (outside_tells _ _ _ c.write_lone-in-Outside.result c.write_lone-in-Outside.ensures.writes c.write_lone-in-Outside.ensures.fault)
