use Rattle.std.proofs.Common.{◌≡◌, ◌<◌, ℕ, [], length, get_or, map}
use Rattle.std.specs.Vec.{vec_capacity}
use Rattle.map_cells.proofs.groups.empty_lists.Given as goal

abbrev pub invariant-loop-sector : goal.invariant-loop-sector
invariant-loop-sector g l = record {
  long : length l.lists.items ≡ l.sector;
  none : (s : ℕ) → get_or (map (λ list. list.items) l.lists.items) s [] ≡ [];
  room : (s : ℕ) → s < l.sector → get_or (map vec_capacity l.lists.items) s 0 ≡ get_or l.counts s 0;
}
