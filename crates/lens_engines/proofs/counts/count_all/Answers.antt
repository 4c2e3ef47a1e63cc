use Rattle.std.proofs.Common.{◌<◌, ◌≢◌, ◌∙◌, arith, below_more, get_or, get_or-set_other, get_or-set_same, length, subst}
use Rattle.std.proofs.lemmas.List.{length-set}
use Rattle.map_level.proofs.FindingLemmas.{rank-below}
use Rattle.map_level.specs.Findings.{rank}
use Rattle.lens_engines.specs.Counts.{IsCount}
use Rattle.lens_engines.proofs.CountLemmas.{order-rank}
use Rattle.lens_engines.proofs.counts.count_all.Goals as goal

pub loop-i-preserved : goal.loop-i-preserved
loop-i-preserved g c =
    let at = c.loop-i.i in
    let counts = c.loop-i.counts in
    let holds = g.T.Searched.holds c.args.searched.now in
    let within : at < length counts = omega (arith, c.loop-i.invariant.long, c.loop-i-test.true) in
    record {
      long = length-set counts at c.count_code.result ∙ c.loop-i.invariant.long;
      each = below_more _ _
          (λ k h. let other : k ≢ at = omega arith in rw get_or-set_other (c.loop-i.invariant.each k h))
          (rw get_or-set_same c.count_code.ensures);
    }

pub invariant_of-result : goal.invariant_of-result
invariant_of-result g c = c.loop-i.invariant.long

pub returns : goal.returns
returns g c = record {
  all = c.loop-i.invariant.long;
  each = λ code.
      subst (λ found. IsCount (g.T.Searched.holds c.args.searched.now found) (get_or c.loop-i.counts (rank code) 0)) (order-rank code)
      (c.loop-i.invariant.each (rank code) (omega (arith, rank-below code, c.loop-i-test.false)));
}
