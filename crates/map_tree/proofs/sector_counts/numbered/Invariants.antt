use Rattle.std.proofs.Common.{◌≡◌, map, take, get_or}
use Rattle.map_tree.proofs.sector_counts.numbered.Given as goal

abbrev pub invariant-loop-sector : goal.invariant-loop-sector
invariant-loop-sector g l = l.pairs.items ≡ map (λ s. (s, get_or l.numbers s 0)) (take l.sector-index l.sectors)
