use Rattle.map_warnings.proofs.RankLemmas.{texture_alone}
use Rattle.map_warnings.proofs.unknown_texture.tell_part.Goals as goal

pub tell_among-requires-clause-alone : goal.tell_among-requires-clause-alone
tell_among-requires-clause-alone g c = texture_alone c.args.resources.now c.args.level.now c.args.i c.args.part
