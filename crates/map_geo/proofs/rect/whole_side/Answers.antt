use Rattle.map_geo.proofs.WholeLemmas.{whole_from_corners, only_from_corners, none_from_corners}
use Rattle.map_geo.proofs.rect.whole_side.Goals as goal

pub returns-clause-whole : goal.returns-clause-whole
returns-clause-whole c =
    whole_from_corners _ _ c.corner_side.ensures.valid _ c.corner_side.ensures.corners

pub returns-clause-only : goal.returns-clause-only
returns-clause-only c =
    only_from_corners _ _ c.corner_side.ensures.valid _ c.corner_side.ensures.corners

pub returns-clause-none : goal.returns-clause-none
returns-clause-none c =
    none_from_corners _ _ c.corner_side.ensures.valid _ c.corner_side.ensures.corners
