use Rattle.later_demos.proofs.DemoLemmas.{IsDemo-not_refused, RefusesDemo-one}
use Rattle.later_demos.proofs.LawLemmas.{read_or_refused}
use Rattle.later_demos.proofs.laws.read_or_refused.Goals as goal

pub returns-clause-either : goal.returns-clause-either
returns-clause-either c = read_or_refused

pub returns-clause-never_both : goal.returns-clause-never_both
returns-clause-never_both c = IsDemo-not_refused

pub returns-clause-one_refusal : goal.returns-clause-one_refusal
returns-clause-one_refusal c = RefusesDemo-one
