use Rattle.std.proofs.Common.{◌≡◌, ℕ, ◌<◌, false, get_or, length}
use Rattle.level_codes.specs.Codes.{code_at}
use Rattle.level_codes.specs.Sets.{is_between}
use Rattle.level_codes.specs.declared.table.TheConstants.{REPORT_COUNT}
use Rattle.level_codes.proofs.set.CodeSet.between.Given as goal

abbrev pub invariant-loop-rank : goal.invariant-loop-rank
invariant-loop-rank l = record {
  long : length l.codes ≡ REPORT_COUNT;
  each : (k : ℕ) → k < l.rank → get_or l.codes k false ≡ is_between l.first l.last (code_at k);
}
