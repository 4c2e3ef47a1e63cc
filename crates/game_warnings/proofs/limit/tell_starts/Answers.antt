use Rattle.game_warnings.proofs.RankLemmas.{starts_alone}
use Rattle.game_warnings.proofs.limit.tell_starts.Goals as goal

pub tell_where-requires-clause-alone : goal.tell_where-requires-clause-alone
tell_where-requires-clause-alone g c = rw c.deathmatch_count-starts.ensures (starts_alone c.args.level.now)
