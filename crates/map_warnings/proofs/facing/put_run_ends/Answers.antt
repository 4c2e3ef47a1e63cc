use Rattle.std.proofs.Common.{◌-◌, ◌<◌, length, ◌∙◌, arith}
use Rattle.std.proofs.lemmas.List.{length-set}
use Rattle.map_warnings.proofs.FacingLemmas.{runs_more}
use Rattle.map_warnings.proofs.facing.put_run_ends.Goals as goal

pub segs-preserved : goal.segs-preserved
segs-preserved c =
    let j = c.segs.j - 1 in
    let inside : j < length c.segs.ends = omega arith in
    record {
      long = length-set c.segs.ends j c.run_end.result ∙ c.segs.invariant.long;
      after = λ inside. c.sector_faced-here.ensures;
      each = runs_more c.args.level.now j c.segs.ends c.run_end.result inside c.run_end.ensures (λ i from within.
          c.segs.invariant.each i (omega (arith, from)) within);
    }
