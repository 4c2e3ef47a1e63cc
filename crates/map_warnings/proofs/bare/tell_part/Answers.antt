use Rattle.map_warnings.proofs.RankLemmas.{bare_alone}
use Rattle.map_warnings.proofs.bare.tell_part.Goals as goal

pub tell_where-requires-clause-alone : goal.tell_where-requires-clause-alone
tell_where-requires-clause-alone g c = bare_alone c.args.level.now c.args.i c.args.side c.args.part
