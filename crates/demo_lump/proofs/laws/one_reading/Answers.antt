use Rattle.demo_lump.proofs.ReadingLemmas.{IsDemo-one}
use Rattle.demo_lump.proofs.laws.one_reading.Goals as goal

pub returns : goal.returns
returns c = IsDemo-one
