use Rattle.std.proofs.Common.{◌≡◌, ◌+◌, ◌*◌, ◌≤◌, ℕ, length}
use Rattle.map_warnings.specs.Balance.{CountEnds, of_sectors, with_end}
use Rattle.map_warnings.proofs.balance.are_sectors_balanced.Given as goal

abbrev pub invariant-loop-sector : goal.invariant-loop-sector
invariant-loop-sector g l = record {
  long : length l.counts ≡ length l.fn.counts;
  counts : CountEnds (of_sectors l.sector l.numbers) l.counts;
  even : (s v : ℕ) → s ≤ l.sector → with_end (v * 2) (of_sectors s l.numbers) ≡ with_end (v * 2 + 1) (of_sectors s l.numbers);
}
