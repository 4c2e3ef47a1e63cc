use Rattle.std.proofs.Common.{◌-◌, ◌^◌, ◌<◌}
use Rattle.map_level.specs.Findings.{rank}
use Rattle.map_picture.specs.Counts.{CountsBelow}
use Rattle.map_picture.proofs.finding_counts.count_code.Given as goal

abbrev pub invariant-finds : goal.invariant-finds
invariant-finds g l = record {
  small : l.from < 2 ^ 32;
  so_far : CountsBelow (g.T.Searched.holds l.searched) (rank l.code) l.from l.counts;
}

abbrev pub decreases-finds : goal.decreases-finds
decreases-finds g l = 2 ^ 32 - l.from
