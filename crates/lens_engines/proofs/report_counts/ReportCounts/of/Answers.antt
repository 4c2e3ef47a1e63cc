use Rattle.std.proofs.Common.{◌<◌, ◌≢◌, ◌∙◌, arith, below_more, get_or-set_other, get_or-set_same, length}
use Rattle.std.proofs.lemmas.List.{length-set}
use Rattle.lens_engines.proofs.ReportCountLemmas.{are_report_counts, finding_at}
use Rattle.lens_engines.proofs.report_counts.ReportCounts.of.Goals as goal

pub loop-rank-preserved : goal.loop-rank-preserved
loop-rank-preserved g c =
    let at = c.loop-rank.rank in
    let counts = c.loop-rank.counts in
    let within : at < length counts = omega (arith, c.loop-rank.invariant.long, c.loop-rank-test.true) in
    record {
      long = length-set counts at c.told_count.result ∙ c.loop-rank.invariant.long;
      each = below_more _ _
          (λ k h. let other : k ≢ at = omega arith in rw get_or-set_other (c.loop-rank.invariant.each k h))
          (rw (get_or-set_same, ← c.at.ensures) c.told_count.ensures.value);
      few = below_more _ _
          (λ k h finding. let other : k ≢ at = omega arith in rw get_or-set_other (c.loop-rank.invariant.few k h finding))
          (λ finding. rw get_or-set_same (let found = finding_at at finding in c.told_count.ensures.few found.0 (c.at.ensures ∙ found.1)));
    }

pub invariant_of-result : goal.invariant_of-result
invariant_of-result g c = record {
  all = c.loop-rank.invariant.long;
  few = λ k finding. c.loop-rank.invariant.few k (omega (arith, finding, c.loop-rank-test.false)) finding;
}

pub returns : goal.returns
returns g c = λ level are.
    are_report_counts c.args.ignored.now level c.args.found.now c.args.warned.now c.loop-rank.counts c.loop-rank.invariant.long
    (λ k below. c.loop-rank.invariant.each k (omega (arith, below, c.loop-rank-test.false))) are
