use Rattle.std.proofs.Common.{map, take}
use Rattle.lens_reports.specs.Files.{bytes_in}
use Rattle.lens_reports.proofs.BaseLemmas.{AreWadsTo}
use Rattle.lens_reports.proofs.bases.wads_of.Given as goal

abbrev pub invariant-loop-i : goal.invariant-loop-i
invariant-loop-i g l = AreWadsTo (map bytes_in (take l.i l.held)) l.wads.items
