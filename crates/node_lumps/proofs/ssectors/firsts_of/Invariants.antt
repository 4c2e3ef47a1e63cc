use Rattle.node_lumps.specs.Later.{counts_of}
use Rattle.node_lumps.proofs.FirstLemmas.{AreFirstsTo}
use Rattle.node_lumps.proofs.ssectors.firsts_of.Given as goal

abbrev pub invariant-loop-t : goal.invariant-loop-t
invariant-loop-t g l = AreFirstsTo (counts_of l.counts) l.firsts.items l.t l.first
