use Rattle.std.proofs.Common.{◌≡◌, ℕ, ◌<◌}
use Rattle.level_codes.specs.Codes.{row_at, small}
use Rattle.level_codes.proofs.code.ReportCode.from_word.Given as goal

-- no row so far has the name
abbrev pub invariant-loop-rank : goal.invariant-loop-rank
invariant-loop-rank l = (k : ℕ) → k < l.rank → small (row_at k).name ≡ small l.word → ⊥
