use Rattle.map_level.specs.Findings.{AreFindingsBelow}
use Rattle.map_level.proofs.search.all_findings.Given as goal

abbrev pub invariant-loop-code : goal.invariant-loop-code
invariant-loop-code g l = AreFindingsBelow (g.T.Searched.holds l.searched) l.code-index 0 l.found
