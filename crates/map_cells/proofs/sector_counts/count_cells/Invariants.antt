use Rattle.std.proofs.Common.{◌≡◌, ◌≤◌, ◌-◌, ℕ, count_by, length, get_or, take}
use Rattle.map_cells.specs.SectorCounts.{shows}
use Rattle.map_cells.proofs.sector_counts.count_cells.Given as goal

abbrev pub invariant-loop-from : goal.invariant-loop-from
invariant-loop-from g l = record {
  told : (s : ℕ) → get_or l.counts s 0 ≡ count_by (shows s) (take l.from l.seen);
  long : length l.counts ≡ length l.fn.counts;
  within : l.from ≤ length l.seen;
}

abbrev pub decreases-loop-from : goal.decreases-loop-from
decreases-loop-from g l = length l.seen - l.from
