use Rattle.game_warnings.proofs.RankLemmas.{scrolling_alone}
use Rattle.game_warnings.proofs.limit.tell_scrolling.Goals as goal

pub tell_where-requires-clause-alone : goal.tell_where-requires-clause-alone
tell_where-requires-clause-alone g c = rw c.scrolling_count-linedefs.ensures (scrolling_alone c.args.level.now)
