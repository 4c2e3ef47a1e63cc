use Rattle.map_warnings.proofs.RankLemmas.{flat_alone}
use Rattle.map_warnings.proofs.unknown_flat.tell_plane.Goals as goal

pub tell_among-requires-clause-alone : goal.tell_among-requires-clause-alone
tell_among-requires-clause-alone g c = flat_alone c.args.resources.now c.args.level.now c.args.i c.args.plane
