use Rattle.std.proofs.Common.{◌≡◌, ◌+◌, ◌-◌, ◌∙◌, ap, sym, arith}
use Rattle.later_levels.proofs.LineLemmas.{first_behind, first_from, first_here}
use Rattle.later_levels.proofs.sectors.first_line.Goals as goal

pub returns-in-Some : goal.returns-in-Some
returns-in-Some c =
    let segs = c.args.nodes.now.segs in
    let first = c.args.ssector.first in
    let end = first + c.args.ssector.count in
    let all : end - first ≡ c.args.ssector.count = omega arith in
    sym (first_here segs c.loop-i.i end c.loop-i-test.true c.in-Some.line (sym c.line_at.ensures ∙ c.in-Some.is))
    ∙ c.loop-i.invariant ∙ ap (first_from segs first) all

pub loop-i-preserved : goal.loop-i-preserved
loop-i-preserved c =
    let end = c.args.ssector.first + c.args.ssector.count in
    sym (first_behind c.args.nodes.now.segs c.loop-i.i end c.loop-i-test.true (sym c.line_at.ensures ∙ c.in_default.is))
    ∙ c.loop-i.invariant
