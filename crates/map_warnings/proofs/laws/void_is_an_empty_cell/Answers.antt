use Rattle.map_warnings.proofs.VoidLemmas.{law_void_is_an_empty_cell}
use Rattle.map_warnings.proofs.laws.void_is_an_empty_cell.Goals as goal

pub returns : goal.returns
returns c = law_void_is_an_empty_cell
