use Rattle.map_warnings.proofs.ClosingLemmas.{law_closed_is_balanced}
use Rattle.map_warnings.proofs.laws.closed_is_balanced.Goals as goal

pub returns : goal.returns
returns c = law_closed_is_balanced
