use Rattle.node_lumps.proofs.ReadingLemmas.{never_both, one_reason, read_or_broken}
use Rattle.node_lumps.proofs.laws.read_or_broken.Goals as goal

pub returns-clause-either : goal.returns-clause-either
returns-clause-either c = read_or_broken

pub returns-clause-never_both : goal.returns-clause-never_both
returns-clause-never_both c = never_both

pub returns-clause-one_reason : goal.returns-clause-one_reason
returns-clause-one_reason c = one_reason
