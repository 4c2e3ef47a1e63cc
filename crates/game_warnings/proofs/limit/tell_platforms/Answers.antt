use Rattle.game_warnings.proofs.RankLemmas.{perpetual_alone}
use Rattle.game_warnings.proofs.limit.tell_platforms.Goals as goal

pub tell_where-requires-clause-alone : goal.tell_where-requires-clause-alone
tell_where-requires-clause-alone g c = rw c.requires.sectors (perpetual_alone c.args.level.now)
