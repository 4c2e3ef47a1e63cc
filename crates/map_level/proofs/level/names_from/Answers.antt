use Rattle.std.proofs.Common.{◌∙◌, arith}
use Rattle.std.proofs.lemmas.List.{length-set}
use Rattle.map_level.proofs.OpeningLemmas.{named_more}
use Rattle.map_level.proofs.level.names_from.Goals as goal

pub loop-k-preserved : goal.loop-k-preserved
loop-k-preserved g c =
    let k = c.loop-k.k in
    let found = c.loop-k.names in
    record {
      eleven = length-set found k c.unwrap_or.result ∙ c.loop-k.invariant.eleven;
      found =
          rw c.unwrap_or.ensures
          (named_more c.args.set.now c.args.label k found c.query-none.result c.name.result
          c.loop-k.invariant.eleven (omega arith)
          c.requires.listed c.name.ensures c.loop-k.invariant.found);
    }
