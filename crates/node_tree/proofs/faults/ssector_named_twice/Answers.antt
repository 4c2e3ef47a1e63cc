use Rattle.std.proofs.Common.{arith}
use Rattle.node_tree.proofs.PlaceLemmas.{ssector_past}
use Rattle.node_tree.proofs.faults.ssector_named_twice.Goals as goal

pub returns-then-t-ssectors : goal.returns-then-t-ssectors
returns-then-t-ssectors g c =
    ssector_past (g.T.Forked.shape c.args.places.now) c.args.t (omega (arith, c.ssectors.ensures.is, c.if-t-ssectors.true))
