use Rattle.map_warnings.proofs.StartLemmas.{start_none}
use Rattle.map_warnings.proofs.starts.missing_start.Goals as goal

pub tell_one-requires-in-None-clause-none : goal.tell_one-requires-in-None-clause-none
tell_one-requires-in-None-clause-none g c = start_none c.args.level.now c.in-None.ensures.none
