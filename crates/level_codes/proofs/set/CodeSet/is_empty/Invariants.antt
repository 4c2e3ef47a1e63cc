use Rattle.std.proofs.Common.{◌≡◌, ℕ, ◌<◌, false}
use Rattle.level_codes.specs.Codes.{code_at}
use Rattle.level_codes.specs.Sets.{has}
use Rattle.level_codes.proofs.set.CodeSet.is_empty.Given as goal

-- no code so far is in it
abbrev pub invariant-loop-rank : goal.invariant-loop-rank
invariant-loop-rank l = (k : ℕ) → k < l.rank → has l.self (code_at k) ≡ false
