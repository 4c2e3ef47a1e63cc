use Rattle.game_numbers.proofs.LawLemmas.{of_their_kind}
use Rattle.game_numbers.proofs.laws.specials_are_of_their_kind.Goals as goal

pub returns : goal.returns
returns c = of_their_kind
