use Rattle.map_picture.proofs.DrawingLemmas.{frame_found, frame_none}
use Rattle.map_picture.proofs.draw.frame_of.Goals as goal

pub returns-in-None-clause-frame : goal.returns-in-None-clause-frame
returns-in-None-clause-frame c = frame_found c.args.level.now c.args.asked c.of.result c.in-None.is c.of.ensures.frame

pub returns-in-None-clause-none : goal.returns-in-None-clause-none
returns-in-None-clause-none c = frame_none c.args.level.now c.args.asked c.of.result c.in-None.is c.of.ensures.none
