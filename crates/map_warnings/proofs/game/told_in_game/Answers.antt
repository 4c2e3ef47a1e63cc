use Rattle.map_warnings.proofs.game.told_in_game.Goals as goal

pub returns-in-None-clause-told : goal.returns-in-None-clause-told
returns-in-None-clause-told g c = rw c.in-None.is c.told_of.ensures.told
