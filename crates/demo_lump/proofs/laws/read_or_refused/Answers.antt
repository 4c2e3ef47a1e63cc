use Rattle.demo_lump.proofs.LawLemmas.{read_or_refused}
use Rattle.demo_lump.proofs.ReadingLemmas.{IsDemo-not_refused, RefusesDemo-one}
use Rattle.demo_lump.proofs.laws.read_or_refused.Goals as goal

pub returns-clause-either : goal.returns-clause-either
returns-clause-either c = read_or_refused

pub returns-clause-never_both : goal.returns-clause-never_both
returns-clause-never_both c bytes demo fault h =
    IsDemo-not_refused bytes demo.header demo.commands h.rest fault h.reads

pub returns-clause-one_refusal : goal.returns-clause-one_refusal
returns-clause-one_refusal c = RefusesDemo-one
