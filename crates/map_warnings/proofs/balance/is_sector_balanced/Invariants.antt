use Rattle.std.proofs.Common.{◌≡◌, ◌-◌, ◌<◌, ◌≤◌, drop, get_or, length}
use Rattle.std.specs.Prelude.{All}
use Rattle.map_warnings.specs.KeyLinks.{of_key}
use Rattle.map_warnings.specs.Balance.{HasBalance, sector_in}
use Rattle.map_warnings.proofs.balance.is_sector_balanced.Given as goal

abbrev pub invariant-loop-at : goal.invariant-loop-at
invariant-loop-at g l = record {
  within : l.at ≤ length l.numbers;
  here : l.at < length l.numbers → sector_in (get_or l.numbers l.at 0) ≡ l.sector;
  left : All (HasBalance l.counts) (of_key sector_in l.sector (drop l.at l.numbers)) → All (HasBalance l.counts) (of_key sector_in l.sector l.numbers);
}

abbrev pub decreases-loop-at : goal.decreases-loop-at
decreases-loop-at g l = length l.numbers - l.at
