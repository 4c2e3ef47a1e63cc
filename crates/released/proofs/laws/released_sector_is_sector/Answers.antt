use Rattle.released.proofs.SectorLemmas.{released_is_sector}
use Rattle.released.proofs.laws.released_sector_is_sector.Goals as goal

pub returns : goal.returns
returns c = released_is_sector
