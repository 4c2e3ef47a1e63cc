use Rattle.later_levels.proofs.LawLemmas as law
use Rattle.later_levels.proofs.laws.sound_is_faultless.Goals as goal

pub returns : goal.returns
returns c = law.sound_is_faultless
