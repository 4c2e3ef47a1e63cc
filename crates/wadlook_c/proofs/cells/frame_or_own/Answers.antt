use Rattle.wadlook_c.proofs.SeenLemmas.{frame_found, nothing_found}
use Rattle.wadlook_c.proofs.cells.frame_or_own.Goals as goal

pub returns-in-None-clause-some : goal.returns-in-None-clause-some
returns-in-None-clause-some c = frame_found c.args.level.now c.args.asked c.of.result c.in-None.is c.of.ensures.frame

pub returns-in-None-clause-none : goal.returns-in-None-clause-none
returns-in-None-clause-none c = nothing_found c.args.level.now c.args.asked c.of.result c.in-None.is c.of.ensures.none
