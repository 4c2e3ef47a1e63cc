use Rattle.std.proofs.Common.{◌≡◌, ℕ, ◌-◌, ◌<◌, ◌≤◌, Some}
use Rattle.map_cells.specs.Cells.{cell}
use Rattle.map_cells.proofs.cells.Cells.shows_all.Given as goal

abbrev pub invariant-loop-c : goal.invariant-loop-c
invariant-loop-c g l = record {
  after : l.fn.from ≤ l.c;
  all : (k : ℕ) → l.fn.from ≤ k → k < l.c → cell l.self k l.j ≡ Some l.sector;
}

abbrev pub decreases-loop-c : goal.decreases-loop-c
decreases-loop-c g l = l.fn.to - l.c
