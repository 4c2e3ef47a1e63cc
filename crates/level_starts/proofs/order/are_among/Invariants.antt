use Rattle.wad_dir.specs.Entries.{names}
use Rattle.level_starts.specs.Order.{AreAmong}
use Rattle.level_starts.proofs.order.are_among.Given as goal

abbrev pub invariant-loop-j : goal.invariant-loop-j
invariant-loop-j g l = AreAmong (names l.set) l.g l.j
