use Rattle.std.proofs.Common.{◌-◌, ◌<◌, ◌≤◌}
use Rattle.map_cells.proofs.change.change.Given as goal

abbrev pub invariant-loop-low : goal.invariant-loop-low
invariant-loop-low g l = record {
  from : l.fn.from ≤ l.low;
  ordered : l.low < l.high;
  to : l.high ≤ l.fn.to;
  low : g.T.ColumnTest.holds l.test l.low;
  high : ¬ (g.T.ColumnTest.holds l.test l.high);
}

abbrev pub decreases-loop-low : goal.decreases-loop-low
decreases-loop-low g l = l.high - l.low
