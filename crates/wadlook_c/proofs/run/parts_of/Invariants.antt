use Rattle.std.proofs.Common.{take}
use Rattle.wadlook_c.specs.Run.{AreParts}
use Rattle.wadlook_c.proofs.run.parts_of.Given as goal

abbrev pub invariant-loop-i : goal.invariant-loop-i
invariant-loop-i l = AreParts (take l.i l.files) l.parts
