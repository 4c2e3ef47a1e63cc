use Rattle.game_numbers.proofs.LawLemmas.{others_tagged}
use Rattle.game_numbers.proofs.laws.the_others_are_tagged.Goals as goal

pub returns : goal.returns
returns c = others_tagged
