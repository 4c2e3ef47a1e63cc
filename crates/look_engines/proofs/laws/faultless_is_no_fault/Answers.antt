use Rattle.look_engines.proofs.engines.FaultlessLemmas.{faultless_is_no_fault}
use Rattle.look_engines.proofs.laws.faultless_is_no_fault.Goals as goal

pub returns : goal.returns
returns c = faultless_is_no_fault
