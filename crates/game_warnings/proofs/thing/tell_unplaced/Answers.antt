use Rattle.game_warnings.proofs.RankLemmas.{unplaced_alone}
use Rattle.game_warnings.proofs.thing.tell_unplaced.Goals as goal

pub tell_where-requires-clause-alone : goal.tell_where-requires-clause-alone
tell_where-requires-clause-alone g c = unplaced_alone c.args.level.now c.args.k
