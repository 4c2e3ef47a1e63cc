use Rattle.game_warnings.proofs.LawLemmas.{law_none_is_within_limits}
use Rattle.game_warnings.proofs.laws.none_is_within_limits.Goals as goal

pub returns : goal.returns
returns c = law_none_is_within_limits
