use Rattle.std.proofs.Common.{◌≡◌, arith, subst, ◌+◌}
use Rattle.map_level.specs.Findings.{AreFindingsBelow}
use Rattle.map_level.specs.declared.search.TheConstants.{CODE_COUNT}
use Rattle.map_level.specs.declared.finding.Code.TheVariants.{F1}
use Rattle.map_level.proofs.FindingLemmas.{found_all, rank_at}
use Rattle.map_level.proofs.search.all_findings.Goals as goal

pub add_code-requires : goal.add_code-requires
add_code-requires g c = rw (rank_at c.loop-code.code-index F1 (omega arith)) c.loop-code.invariant

pub loop-code-preserved : goal.loop-code-preserved
loop-code-preserved g c =
    subst (λ p. AreFindingsBelow (g.T.Searched.holds c.args.searched.now) (p + 1) 0 c.add_code.new.found)
    (rank_at c.loop-code.code-index F1 (omega arith)) c.in_ok-add_code.ensures

pub returns : goal.returns
returns g c =
    let holds = g.T.Searched.holds c.args.searched.now in
    let all : c.loop-code.code-index ≡ CODE_COUNT = omega arith in
    found_all holds c.loop-code.found (subst (λ p. AreFindingsBelow holds p 0 c.loop-code.found) all c.loop-code.invariant)
