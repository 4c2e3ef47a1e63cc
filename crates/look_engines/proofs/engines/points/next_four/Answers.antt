use Rattle.look_engines.proofs.engines.PointsLemmas.{names_then}
use Rattle.look_engines.proofs.engines.points.next_four.Goals as goal

pub returns : goal.returns
returns c =
    names_then _ _ _ _ _ c.in-Some.ensures
    (names_then _ _ _ _ _ c.in-Some-next_point.ensures
    (names_then _ _ _ _ _ c.in-Some-next_point-2.ensures c.in-Some-next_point-3.ensures))
