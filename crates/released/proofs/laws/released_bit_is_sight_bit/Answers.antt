use Rattle.released.proofs.SightLemmas.{released_bit_is_sight_bit}
use Rattle.released.proofs.laws.released_bit_is_sight_bit.Goals as goal

pub returns : goal.returns
returns c = released_bit_is_sight_bit
