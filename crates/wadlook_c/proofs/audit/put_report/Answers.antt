use Rattle.std.proofs.Common.{◌≡◌, ◌+◌, length}
use Rattle.wadlook_c.proofs.FindingLemmas.{all_counted}
use Rattle.wadlook_c.proofs.audit.put_report.Goals as goal

pub returns-clause-behind : goal.returns-clause-behind
returns-clause-behind g c =
    let all : c.faults.result + c.notes.result ≡ length c.args.report.now = rw (c.faults.ensures, c.notes.ensures) (all_counted c.args.report.now) in
    rw all c.put_findings.ensures.behind
