use Rattle.std.proofs.Common.{◌≡◌, ℕ, ◌<◌}
use Rattle.level_codes.specs.Codes.{row_at}
use Rattle.level_codes.proofs.code.ReportCode.named.Given as goal

-- no row so far has the name
abbrev pub invariant-loop-rank : goal.invariant-loop-rank
invariant-loop-rank l = (k : ℕ) → k < l.rank → (row_at k).name ≡ l.name → ⊥
