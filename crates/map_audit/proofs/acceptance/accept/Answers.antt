use Rattle.std.proofs.Common.{arith}
use Rattle.map_audit.proofs.ReportLemmas.{sound_by_report}
use Rattle.map_audit.proofs.acceptance.accept.Goals as goal

pub returns-then-faults-gt0-clause-refused : goal.returns-then-faults-gt0-clause-refused
returns-then-faults-gt0-clause-refused g c =
    let decided = sound_by_report c.args.level.now c.in_ok-report.report c.in_ok-report.ensures in
    ((λ sound. let none = decided.0 sound in omega (arith, none, c.faults.ensures, c.if-faults-gt0.true)), c.in_ok-report.ensures)

pub of-requires : goal.of-requires
of-requires g c =
    let decided = sound_by_report c.args.level.now c.in_ok-report.report c.in_ok-report.ensures in
    decided.1 (omega (arith, c.faults.ensures, c.if-faults-gt0.false))
