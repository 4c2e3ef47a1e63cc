use Rattle.map_audit.proofs.ReportLemmas.{law_faults_stand_first, law_first_stands_before}
use Rattle.map_audit.proofs.laws.faults_stand_first.Goals as goal

pub returns-clause-first : goal.returns-clause-first
returns-clause-first c = law_first_stands_before

pub returns-clause-none : goal.returns-clause-none
returns-clause-none c = law_faults_stand_first
