use Rattle.std.proofs.Common.{◌≡◌, ℕ, ◌<◌, get_or, length}
use Rattle.map_level.specs.declared.finding.Code.TheVariants.{F1}
use Rattle.map_level.specs.declared.search.TheConstants.{CODE_COUNT}
use Rattle.lens_engines.specs.Counts.{IsCount, finding_order}
use Rattle.lens_engines.proofs.counts.count_all.Given as goal

abbrev pub invariant-loop-i : goal.invariant-loop-i
invariant-loop-i g l = record {
  long : length l.counts ≡ CODE_COUNT;
  each : (k : ℕ) → k < l.i → IsCount (g.T.Searched.holds l.searched (get_or finding_order k F1)) (get_or l.counts k 0);
}
