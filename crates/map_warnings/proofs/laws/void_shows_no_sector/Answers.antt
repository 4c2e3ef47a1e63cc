use Rattle.map_warnings.proofs.VoidLemmas.{law_void_shows_no_sector}
use Rattle.map_warnings.proofs.laws.void_shows_no_sector.Goals as goal

pub returns : goal.returns
returns c = law_void_shows_no_sector
