use Rattle.std.proofs.Common.{◌-◌, ◌^◌}
use Rattle.map_level.specs.Findings.{rank, AreFindingsBelow}
use Rattle.map_level.proofs.search.add_code.Given as goal

abbrev pub invariant-finds : goal.invariant-finds
invariant-finds g l = AreFindingsBelow (g.T.Searched.holds l.searched) (rank l.code) l.from l.found

abbrev pub decreases-finds : goal.decreases-finds
decreases-finds g l = 2 ^ 32 - l.from
