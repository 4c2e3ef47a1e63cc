use Rattle.std.proofs.Common.{◌≡◌, ℕ, ◌<◌, ◌^◌, get_or, length}
use Rattle.level_codes.specs.Codes.{code_at}
use Rattle.level_codes.specs.declared.table.TheConstants.{REPORT_COUNT}
use Rattle.map_level.specs.declared.search.TheConstants.{CODE_COUNT}
use Rattle.lens_engines.specs.ReportCounts.{told_count}
use Rattle.lens_engines.proofs.report_counts.ReportCounts.of.Given as goal

abbrev pub invariant-loop-rank : goal.invariant-loop-rank
invariant-loop-rank g l = record {
  long : length l.counts ≡ REPORT_COUNT;
  each : (k : ℕ) → k < l.rank → get_or l.counts k 0 ≡ told_count l.found l.warned l.ignored (code_at k);
  few : (k : ℕ) → k < l.rank → k < CODE_COUNT → get_or l.counts k 0 < 2 ^ 32;
}
