use Rattle.std.proofs.Common.{arith}
use Rattle.node_lumps.proofs.PartLemmas.{begins_cut}
use Rattle.node_lumps.proofs.parts.cut_part.Goals as goal

pub returns-clause-some : goal.returns-clause-some
returns-clause-some c =
    begins_cut c.args.size c.args.bytes.now c.u32_at.result c.u32_at.ensures (omega arith)
