use Rattle.std.proofs.Common.{◌<◌, ◌≢◌, ◌∙◌, arith, below_more, get_or-set_other, get_or-set_same, length, refl}
use Rattle.std.proofs.lemmas.List.{length-set}
use Rattle.level_codes.specs.Sets.{in_both}
use Rattle.level_codes.proofs.SetLemmas.{same_set}
use Rattle.level_codes.proofs.set.CodeSet.common.Goals as goal

pub loop-rank-preserved : goal.loop-rank-preserved
loop-rank-preserved c =
    let at = c.loop-rank.rank in
    let codes = c.loop-rank.codes in
    let within : at < length codes = omega (arith, c.loop-rank.invariant.long, c.loop-rank-test.true) in
    record {
      long = length-set codes at c.in_both.result ∙ c.loop-rank.invariant.long;
      each = below_more _ _
          (λ k h. let other : k ≢ at = omega arith in rw get_or-set_other (c.loop-rank.invariant.each k h))
          (rw (get_or-set_same, ← c.at.ensures) c.in_both.ensures);
    }

pub returns : goal.returns
returns c =
    same_set c.loop-rank.codes (in_both c.args.self c.args.other) c.loop-rank.invariant.long
    (λ k below. c.loop-rank.invariant.each k (omega (arith, below, c.loop-rank-test.false))) _ refl
