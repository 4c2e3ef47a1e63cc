use Rattle.game_warnings.proofs.RankLemmas.{locked_alone}
use Rattle.game_warnings.proofs.lock.tell_key.Goals as goal

pub tell_where-requires-clause-alone : goal.tell_where-requires-clause-alone
tell_where-requires-clause-alone g c = rw (c.locked-linedefs.ensures, c.lacking-skills.ensures) (locked_alone c.args.level.now c.args.key)
