use Rattle.map_warnings.proofs.ListedLemmas.{not_told}
use Rattle.map_warnings.proofs.unknown_texture.is_missing.Goals as goal

pub returns : goal.returns
returns g c = not_told _ _ (rw c.asked_name.ensures at c.has_texture.ensures)
