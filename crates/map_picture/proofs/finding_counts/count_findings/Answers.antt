use Rattle.std.proofs.Common.{◌≡◌, ◌+◌, refl, subst, arith}
use Rattle.map_level.specs.declared.finding.Code.TheVariants.{F1}
use Rattle.map_level.specs.declared.search.TheConstants.{CODE_COUNT}
use Rattle.map_level.proofs.FindingLemmas.{rank_at}
use Rattle.map_picture.specs.Counts.{CountsBelow}
use Rattle.map_picture.proofs.CountLemmas.{counts-all, counts-none}
use Rattle.map_picture.proofs.finding_counts.count_findings.Goals as goal

pub loop-code-init : goal.loop-code-init
loop-code-init g c = counts-none (g.T.Searched.holds c.args.searched.now) _ refl

pub count_code-counts-requires : goal.count_code-counts-requires
count_code-counts-requires g c = rw (rank_at c.loop-code.code-index F1 (omega arith)) c.loop-code.invariant

pub loop-code-preserved : goal.loop-code-preserved
loop-code-preserved g c =
    subst (λ p. CountsBelow (g.T.Searched.holds c.args.searched.now) (p + 1) 0 c.count_code-counts.result)
    (rank_at c.loop-code.code-index F1 (omega arith)) c.count_code-counts.ensures

pub returns : goal.returns
returns g c =
    let holds = g.T.Searched.holds c.args.searched.now in
    let all : c.loop-code.code-index ≡ CODE_COUNT = omega arith in
    counts-all holds c.loop-code.counts (subst (λ p. CountsBelow holds p 0 c.loop-code.counts) all c.loop-code.invariant)
