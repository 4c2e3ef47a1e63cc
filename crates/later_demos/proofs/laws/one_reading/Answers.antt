use Rattle.later_demos.proofs.DemoLemmas.{IsDemo-one}
use Rattle.later_demos.proofs.laws.one_reading.Goals as goal

pub returns : goal.returns
returns c = IsDemo-one
