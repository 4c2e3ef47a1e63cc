use Rattle.std.proofs.Common.{◌≡◌, ◌+◌, ◌-◌, ◌<◌, ◌≤◌, ℕ, drop, get_or, length}
use Rattle.map_warnings.specs.KeyLinks.{of_key}
use Rattle.map_warnings.specs.Balance.{of_sectors, sector_in, with_end}
use Rattle.map_warnings.proofs.balance.count_sector.Given as goal

abbrev pub invariant-loop-at : goal.invariant-loop-at
invariant-loop-at g l = record {
  within : l.at ≤ length l.numbers;
  here : l.at < length l.numbers → sector_in (get_or l.numbers l.at 0) ≡ l.sector;
  long : length l.counts ≡ length l.fn.counts;
  left : (e : ℕ) → e < length l.counts → get_or l.counts e 0 + with_end e (of_key sector_in l.sector (drop l.at l.numbers))
      ≡ with_end e (of_sectors (l.sector + 1) l.numbers);
}

abbrev pub decreases-loop-at : goal.decreases-loop-at
decreases-loop-at g l = length l.numbers - l.at
