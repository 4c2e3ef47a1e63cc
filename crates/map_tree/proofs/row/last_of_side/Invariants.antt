use Rattle.std.proofs.Common.{◌-ℤ◌}
use Rattle.std.specs.Prelude.{unsigned_abs}
use Rattle.map_tree.proofs.RowLemmas.{Searched}
use Rattle.map_tree.proofs.row.last_of_side.Given as goal

abbrev pub invariant-loop-l : goal.invariant-loop-l
invariant-loop-l l = Searched l.partition l.y l.s l.x0 l.x1 l.l l.e l.halvings

abbrev pub decreases-loop-l : goal.decreases-loop-l
decreases-loop-l l = unsigned_abs (l.e -ℤ l.l)
