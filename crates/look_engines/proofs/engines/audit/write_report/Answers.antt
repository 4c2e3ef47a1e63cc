use Rattle.std.specs.List.{flat_map}
use Rattle.std.proofs.lemmas.Result.{err_from_is_err_and}
use Rattle.line_io.proofs.WriteLemmas.{Writes-stop, Writes-then}
use Rattle.look_engines.specs.Engines.Audit.{fault_count, finding_line, note_count, totals_line}
use Rattle.look_engines.proofs.engines.AuditLemmas.{Writes-err}
use Rattle.look_engines.proofs.engines.audit.write_report.Goals as goal

pub returns-in_err-write_findings : goal.returns-in_err-write_findings
returns-in_err-write_findings g c =
    let p = err_from_is_err_and c.from_residual.result c.from_residual.ensures.1 in
    let found = c.args.report.now in
    rw (p.1, p.2) (record { writes = Writes-stop (totals_line (fault_count found) (note_count found)) c.in_err-write_findings.ensures; faultless = tt })

pub returns-in_err-write_totals : goal.returns-in_err-write_totals
returns-in_err-write_totals g c =
    let p = err_from_is_err_and c.from_residual-in_err-write_totals.result c.from_residual-in_err-write_totals.ensures.1 in
    let found = c.args.report.now in
    let totals = rw (c.faults-faults.ensures, c.notes.ensures) at c.in_err-write_totals.ensures in
    rw (p.1, p.2) (record { writes = Writes-err (Writes-then _ _ _ (flat_map finding_line found) _ c.in_ok-write_findings.ensures.takes.whole totals); faultless = tt })
