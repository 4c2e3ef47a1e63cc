use Rattle.released.proofs.ListLemmas.{released_is_list}
use Rattle.released.proofs.laws.released_list_is_block_list.Goals as goal

pub returns : goal.returns
returns c = released_is_list
