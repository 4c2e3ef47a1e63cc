use Rattle.level_starts.proofs.FormatLemmas.{IsFormat-one}
use Rattle.level_starts.proofs.laws.one_format.Goals as goal

pub returns : goal.returns
returns c = IsFormat-one
