use Rattle.map_cells.proofs.ShownLemmas.{law_one_shown}
use Rattle.map_cells.proofs.laws.one_sector_shown.Goals as goal

pub returns : goal.returns
returns c = law_one_shown
