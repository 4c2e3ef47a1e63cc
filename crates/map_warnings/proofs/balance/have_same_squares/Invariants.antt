use Rattle.std.proofs.Common.{◌≡◌, take}
use Rattle.map_warnings.specs.Balance.{squares_in}
use Rattle.map_warnings.proofs.balance.have_same_squares.Given as goal

abbrev pub invariant-loop-k : goal.invariant-loop-k
invariant-loop-k l = record {
  reached : l.reached ≡ squares_in 0 (take l.k l.numbers);
  left : l.left ≡ squares_in 1 (take l.k l.numbers);
}
