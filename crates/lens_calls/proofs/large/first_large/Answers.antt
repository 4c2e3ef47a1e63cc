use Rattle.std.proofs.Common.{below_more, arith}
use Rattle.lens_calls.proofs.FileLemmas.{small_at}
use Rattle.lens_calls.proofs.large.first_large.Goals as goal

pub loop-i-preserved : goal.loop-i-preserved
loop-i-preserved c = below_more _ _ c.loop-i.invariant (small_at c.args.files.now c.loop-i.i _ (omega arith) c.if-files-i-gt-MAX_READ.false)
