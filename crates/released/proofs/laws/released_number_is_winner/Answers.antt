use Rattle.released.proofs.NameLemmas.{released_is_winner, released_is_none, names_stand_raw}
use Rattle.released.proofs.laws.released_number_is_winner.Goals as goal

pub returns-clause-winner : goal.returns-clause-winner
returns-clause-winner c = released_is_winner

pub returns-clause-none : goal.returns-clause-none
returns-clause-none c = released_is_none

pub returns-clause-names : goal.returns-clause-names
returns-clause-names c = names_stand_raw
