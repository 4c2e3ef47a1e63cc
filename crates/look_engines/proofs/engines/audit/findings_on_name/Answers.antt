use Rattle.look_engines.proofs.engines.audit.findings_on_name.Goals as goal

pub returns-in-Err-NoLabel-clause-err : goal.returns-in-Err-NoLabel-clause-err
returns-in-Err-NoLabel-clause-err g c =
    (c.in_ok-set.set, c.in_ok-set.ensures.ok, rw (c.query.ensures, c.in-Err-NoLabel.field-0-is) at c.in-Err-NoLabel.ensures.refused)
