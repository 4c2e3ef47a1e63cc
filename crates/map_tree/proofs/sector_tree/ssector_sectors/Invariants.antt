use Rattle.std.proofs.Common.{◌≡◌, ℕ, ◌<◌, length}
use Rattle.std.specs.List.{slice_get}
use Rattle.map_level.specs.SectorOf.{sector_of}
use Rattle.map_tree.proofs.sector_tree.ssector_sectors.Given as goal

abbrev pub invariant-loop-t : goal.invariant-loop-t
invariant-loop-t g l = record {
  long : length l.sectors.items ≡ l.t;
  each : (t : ℕ) → t < l.t → sector_of l.level t ≡ slice_get l.sectors.items t;
}
