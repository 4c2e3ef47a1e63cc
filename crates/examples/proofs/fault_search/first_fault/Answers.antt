use Rattle.examples.proofs.ReportLemmas.{leading-some, leading-none}
use Rattle.examples.proofs.fault_search.first_fault.Goals as goal

pub returns-clause-some : goal.returns-clause-some
returns-clause-some g c =
    leading-some c.args.level.now c.in_ok-report.report c.in_ok-report.ensures c.faults_stand_first.ensures.first c.leading_fault.result c.leading_fault.ensures.some

pub returns-clause-none : goal.returns-clause-none
returns-clause-none g c =
    leading-none c.args.level.now c.in_ok-report.report c.in_ok-report.ensures c.faults_stand_first.ensures.first
    c.faults_stand_first.ensures.none c.sound_is_no_fault.ensures c.leading_fault.result c.leading_fault.ensures.some c.leading_fault.ensures.none
