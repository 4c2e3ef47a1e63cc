use Rattle.later_levels.proofs.WiderLemmas as law
use Rattle.later_levels.proofs.laws.same_sector.Goals as goal

pub returns : goal.returns
returns c = law.same_sector
