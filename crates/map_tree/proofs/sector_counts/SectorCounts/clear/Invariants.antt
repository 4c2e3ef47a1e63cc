use Rattle.std.proofs.Common.{◌<◌, ◌≡◌, ℕ, length, get_or}
use Rattle.std.specs.List.{All, Contains}
use Rattle.map_tree.proofs.sector_counts.SectorCounts.clear.Given as goal

abbrev pub invariant-loop-sector : goal.invariant-loop-sector
invariant-loop-sector g l = record {
  within : All (λ s. s < length l.self-inside.numbers.items) l.self-inside.touched.items;
  each : (s : ℕ) → 0 < get_or l.self-inside.numbers.items s 0 → Contains l.self-inside.touched.items s;
  long : length l.self-inside.numbers.items ≡ length l.initial.self-inside.numbers.items;
}

abbrev pub decreases-loop-sector : goal.decreases-loop-sector
decreases-loop-sector g l = length l.self-inside.touched.items
