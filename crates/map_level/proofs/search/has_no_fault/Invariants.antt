use Rattle.std.proofs.Common.{ℕ, ◌<◌, IsTrue}
use Rattle.map_level.specs.declared.finding.Code.{Code}
use Rattle.map_level.specs.Findings.{rank, is_fault}
use Rattle.map_level.proofs.search.has_no_fault.Given as goal

abbrev pub invariant-loop-code : goal.invariant-loop-code
invariant-loop-code g l = (code : Code) (i : ℕ) → rank code < l.code-index → IsTrue (is_fault code) → ¬ g.T.Searched.holds l.searched code i
