use Rattle.map_cells.proofs.FrontLemmas.{front_of_range}
use Rattle.map_cells.proofs.front.front_of_segs.Goals as goal

pub returns-then-segs-listed : goal.returns-then-segs-listed
returns-then-segs-listed c =
    front_of_range c.args.level.now c.args.t c.segs_of-segs.result c.args.row c.args.span c.front_of_listed.result c.segs_of-segs.ensures
    c.front_of_listed.ensures

pub returns-else-span-eq1 : goal.returns-else-span-eq1
returns-else-span-eq1 c =
    front_of_range c.args.level.now c.args.t c.segs_of-segs.result c.args.row c.args.span c.front_of_others.result c.segs_of-segs.ensures
    c.front_of_others.ensures
