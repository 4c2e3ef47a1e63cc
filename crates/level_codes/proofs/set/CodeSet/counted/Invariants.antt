use Rattle.std.proofs.Common.{◌≡◌, ℕ, ◌<◌, false, get_or, length}
use Rattle.level_codes.specs.Codes.{code_at}
use Rattle.level_codes.specs.Sets.{is_counted}
use Rattle.level_codes.specs.declared.table.TheConstants.{REPORT_COUNT}
use Rattle.level_codes.proofs.set.CodeSet.counted.Given as goal

abbrev pub invariant-loop-rank : goal.invariant-loop-rank
invariant-loop-rank l = record {
  long : length l.codes ≡ REPORT_COUNT;
  each : (k : ℕ) → k < l.rank → get_or l.codes k false ≡ is_counted l.counts (code_at k);
}
