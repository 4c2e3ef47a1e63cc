use Rattle.level_starts.proofs.StartLemmas.{IsNextStart-one}
use Rattle.level_starts.proofs.laws.one_next_start.Goals as goal

pub returns : goal.returns
returns c = IsNextStart-one
