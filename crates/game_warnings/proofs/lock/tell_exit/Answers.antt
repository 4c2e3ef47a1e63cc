use Rattle.game_warnings.proofs.RankLemmas.{exit_alone}
use Rattle.game_warnings.proofs.lock.tell_exit.Goals as goal

pub tell_where-requires-clause-alone : goal.tell_where-requires-clause-alone
tell_where-requires-clause-alone g c = exit_alone c.args.level.now
