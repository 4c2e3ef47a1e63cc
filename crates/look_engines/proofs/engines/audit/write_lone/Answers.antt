use Rattle.std.proofs.lemmas.Result.{err_from_is_err_and}
use Rattle.line_io.proofs.WriteLemmas.{Writes-stop, Writes-then}
use Rattle.look_engines.specs.Engines.Audit.{finding_line, totals_line}
use Rattle.look_engines.proofs.engines.AuditLemmas.{Writes-err}
use Rattle.look_engines.proofs.engines.audit.write_lone.Goals as goal

pub returns-in_err-write_finding-clause-writes : goal.returns-in_err-write_finding-clause-writes
returns-in_err-write_finding-clause-writes g c =
    let p = err_from_is_err_and c.from_residual.result c.from_residual.ensures.1 in
    rw (p.1, p.2) (Writes-stop (totals_line 1 0) c.in_err-write_finding.ensures)

pub returns-in_err-write_totals-clause-writes : goal.returns-in_err-write_totals-clause-writes
returns-in_err-write_totals-clause-writes g c =
    let p = err_from_is_err_and c.from_residual-in_err-write_totals.result c.from_residual-in_err-write_totals.ensures.1 in
    rw (p.1, p.2) (Writes-err (Writes-then _ _ _ (finding_line (record { code = c.args.code; index = c.args.index })) _ c.in_ok-write_finding.ensures.takes.whole c.in_err-write_totals.ensures))
