use Rattle.game_warnings.proofs.RankLemmas.{ending_alone}
use Rattle.game_warnings.proofs.ending.tell_ending.Goals as goal

pub tell_where-requires-clause-alone : goal.tell_where-requires-clause-alone
tell_where-requires-clause-alone g c = ending_alone c.args.level.now c.args.k c.following-follow.result c.following-follow.ensures
