use Rattle.std.proofs.Common.{◌≡◌, ℕ, ◌<◌, get_or, length}
use Rattle.level_codes.specs.declared.table.TheConstants.{REPORT_COUNT}
use Rattle.wadlook_c.specs.Question.{bit_at}
use Rattle.wadlook_c.proofs.question.codes_of.Given as goal

abbrev pub invariant-loop-rank : goal.invariant-loop-rank
invariant-loop-rank l = record {
  long : length l.counts ≡ REPORT_COUNT;
  each : (k : ℕ) → k < l.rank → get_or l.counts k 0 ≡ bit_at l.bits k;
}
