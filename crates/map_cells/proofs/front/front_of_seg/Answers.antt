use Rattle.std.proofs.Common.{◌∙◌}
use Rattle.map_cells.proofs.FrontLemmas.{front_known}
use Rattle.map_cells.proofs.front.front_of_seg.Goals as goal

pub returns-in-Some : goal.returns-in-Some
returns-in-Some c =
    front_known c.args.level.now c.args.i c.in-Some.ends c.args.row c.args.span c.cut_by.result (c.requires.ends ∙ c.in-Some.is) c.cut_by.ensures
