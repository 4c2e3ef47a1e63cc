use Rattle.map_cells.proofs.CoverLemmas.{law_one_block}
use Rattle.map_cells.proofs.laws.one_block_a_cell.Goals as goal

pub returns : goal.returns
returns c = law_one_block
