use Rattle.released.proofs.SideLemmas.{released_is_side, range_is_within_reach, wraps_past_range}
use Rattle.released.proofs.laws.released_side_is_side.Goals as goal

pub returns-clause-same : goal.returns-clause-same
returns-clause-same c = released_is_side

pub returns-clause-range : goal.returns-clause-range
returns-clause-range c = range_is_within_reach

pub returns-clause-past : goal.returns-clause-past
returns-clause-past c = wraps_past_range
