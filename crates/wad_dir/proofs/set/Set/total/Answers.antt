use Rattle.std.proofs.Common.{arith}
use Rattle.wad_dir.proofs.JoinedLemmas.{length-joined_more}
use Rattle.wad_dir.proofs.set.Set.total.Goals as goal

pub loop-wad-preserved : goal.loop-wad-preserved
loop-wad-preserved g c = (
  omega (
    arith,
    length-joined_more c.deref-wad-items.result.now c.wad-item.result c.loop-wad.wad-index
        (omega arith) c.wad-item.is,
  ),
  omega arith,
)
