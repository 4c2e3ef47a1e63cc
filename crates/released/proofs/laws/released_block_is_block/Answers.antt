use Rattle.released.proofs.BlockLemmas.{released_is_block, released_is_no_block, block_wraps, block_wraps_below}
use Rattle.released.proofs.laws.released_block_is_block.Goals as goal

pub returns-clause-same : goal.returns-clause-same
returns-clause-same c = released_is_block

pub returns-clause-none : goal.returns-clause-none
returns-clause-none c = released_is_no_block

pub returns-clause-past : goal.returns-clause-past
returns-clause-past c = block_wraps

pub returns-clause-below : goal.returns-clause-below
returns-clause-below c = block_wraps_below
