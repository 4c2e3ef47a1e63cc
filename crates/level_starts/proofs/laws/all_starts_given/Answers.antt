use Rattle.level_starts.proofs.StartLemmas.{all_given}
use Rattle.level_starts.proofs.laws.all_starts_given.Goals as goal

pub returns : goal.returns
returns c = all_given
