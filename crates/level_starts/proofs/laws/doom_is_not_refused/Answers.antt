use Rattle.level_starts.proofs.FormatLemmas.{doom_not_refused}
use Rattle.level_starts.proofs.laws.doom_is_not_refused.Goals as goal

pub returns : goal.returns
returns c = doom_not_refused
