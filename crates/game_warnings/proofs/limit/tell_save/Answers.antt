use Rattle.game_warnings.proofs.RankLemmas.{save_alone}
use Rattle.game_warnings.proofs.limit.tell_save.Goals as goal

pub tell_where-requires-clause-alone : goal.tell_where-requires-clause-alone
tell_where-requires-clause-alone g c = rw c.saved-bytes.ensures (save_alone c.args.level.now)
