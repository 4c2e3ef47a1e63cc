use Rattle.game_warnings.proofs.RankLemmas.{door_alone}
use Rattle.game_warnings.proofs.effect.tell_door.Goals as goal

pub tell_where-requires-clause-alone : goal.tell_where-requires-clause-alone
tell_where-requires-clause-alone g c = door_alone c.args.level.now c.args.linedef
