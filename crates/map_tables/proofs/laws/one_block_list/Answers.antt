use Rattle.map_tables.proofs.ListLemmas.{one_block_list}
use Rattle.map_tables.proofs.laws.one_block_list.Goals as goal

pub returns : goal.returns
returns c = one_block_list
