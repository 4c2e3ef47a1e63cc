use Rattle.map_geo.proofs.AlongLemmas.{sides_along_rows, sides_along_columns, sides_by_corners}
use Rattle.map_geo.proofs.laws.sides_along_a_line.Goals as goal

pub returns-clause-rows : goal.returns-clause-rows
returns-clause-rows c = sides_along_rows

pub returns-clause-columns : goal.returns-clause-columns
returns-clause-columns c = sides_along_columns

pub returns-clause-corners : goal.returns-clause-corners
returns-clause-corners c = sides_by_corners
