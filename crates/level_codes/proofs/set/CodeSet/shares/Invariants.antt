use Rattle.std.proofs.Common.{ℕ, ◌<◌}
use Rattle.level_codes.specs.Codes.{code_at}
use Rattle.level_codes.specs.Sets.{IsShared}
use Rattle.level_codes.proofs.set.CodeSet.shares.Given as goal

-- no code so far is in both
abbrev pub invariant-loop-rank : goal.invariant-loop-rank
invariant-loop-rank l = (k : ℕ) → k < l.rank → ¬ IsShared l.self l.other (code_at k)
