use Rattle.std.proofs.Common.{arith}
use Rattle.lens_engines.proofs.CutLemmas.{end_map_here}
use Rattle.lens_engines.proofs.cut.end_map.Goals as goal

pub returns-then-is_named-clause-some : goal.returns-then-is_named-clause-some
returns-then-is_named-clause-some g c =
    let here = c.is_named.ensures.0 c.if-is_named.true in
    end_map_here c.args.set.now c.args.g c.loop-entry.entry c.loop-entry.invariant (omega arith) (rw c.query.ensures at here)
