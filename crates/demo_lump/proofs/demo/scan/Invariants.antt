use Rattle.std.proofs.Common.{length}
use Rattle.demo_lump.specs.Scanning.{Follows}
use Rattle.demo_lump.proofs.demo.scan.Given as goal

abbrev pub invariant-commands : goal.invariant-commands
invariant-commands l = Follows l.version l.bytes l.count l.rest

abbrev pub decreases-commands : goal.decreases-commands
decreases-commands l = length l.rest
