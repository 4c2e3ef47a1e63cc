use Rattle.map_warnings.proofs.GameLemmas.{ok_game}
use Rattle.map_warnings.proofs.game.game_told.Goals as goal

pub returns-clause-told : goal.returns-clause-told
returns-clause-told g c =
    ok_game c.args.resources.now c.args.level.now c.args.code c.in_ok-told.told c.tell_game.result c.in_ok-told.ensures.told c.tell_game.ensures
