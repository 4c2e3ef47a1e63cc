use Rattle.node_lumps.specs.Later.{counts_of}
use Rattle.node_lumps.proofs.FirstLemmas.{IsSummed}
use Rattle.node_lumps.proofs.ssectors.sum_of.Given as goal

abbrev pub invariant-loop-t : goal.invariant-loop-t
invariant-loop-t l = IsSummed (counts_of l.counts) l.t l.segs
