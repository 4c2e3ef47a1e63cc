use Rattle.game_warnings.proofs.RankLemmas.{barred_alone}
use Rattle.game_warnings.proofs.crossing.tell_barrier.Goals as goal

pub tell_where-requires-clause-alone : goal.tell_where-requires-clause-alone
tell_where-requires-clause-alone g c = barred_alone c.args.level.now c.args.linedef c.args.barrier
