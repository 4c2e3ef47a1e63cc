use Rattle.std.proofs.Common.{◌≡◌, ℕ, ◌<◌, ◌≤◌, length}
use Rattle.std.specs.Prelude.{pos, slice_index_or}
use Rattle.map_warnings.specs.Facing.{IsRunEnd, sector_faced}
use Rattle.map_warnings.proofs.facing.put_run_ends.Given as goal

abbrev pub invariant-segs : goal.invariant-segs
invariant-segs l = record {
  long : length l.ends ≡ length l.level.segs.records;
  after : l.j < length l.ends → l.after ≡ sector_faced l.level (pos l.j);
  each : (i : ℕ) → l.j ≤ i → i < length l.ends → IsRunEnd l.level i (slice_index_or l.ends i 0);
}
