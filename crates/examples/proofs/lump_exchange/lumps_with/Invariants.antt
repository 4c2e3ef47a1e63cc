use Rattle.examples.proofs.ExchangeLemmas.{ExchangedSoFar}
use Rattle.examples.proofs.lump_exchange.lumps_with.Given as goal

abbrev pub invariant-loop-i : goal.invariant-loop-i
invariant-loop-i g l = ExchangedSoFar l.set l.g l.bytes l.packer l.i
