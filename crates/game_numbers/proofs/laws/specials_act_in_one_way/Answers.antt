use Rattle.game_numbers.proofs.LawLemmas.{in_one_way}
use Rattle.game_numbers.proofs.laws.specials_act_in_one_way.Goals as goal

pub returns : goal.returns
returns c = in_one_way
