use Rattle.look_engines.proofs.engines.PointsLemmas.{each_point_is_answered, points_are_lines}
use Rattle.look_engines.proofs.laws.each_point_has_a_line.Goals as goal

pub returns-clause-line : goal.returns-clause-line
returns-clause-line c = points_are_lines

pub returns-clause-answered : goal.returns-clause-answered
returns-clause-answered c = each_point_is_answered
