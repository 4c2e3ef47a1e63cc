use Rattle.map_picture.specs.Counts.{CountsBelow}
use Rattle.map_picture.proofs.finding_counts.count_findings.Given as goal

abbrev pub invariant-loop-code : goal.invariant-loop-code
invariant-loop-code g l = CountsBelow (g.T.Searched.holds l.searched) l.code-index 0 l.counts
