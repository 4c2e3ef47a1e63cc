use Rattle.std.proofs.Common.{length}
use Rattle.map_warnings.specs.KeyLinks.{AreLinks}
use Rattle.map_warnings.specs.Balance.{sector_in}
use Rattle.map_warnings.proofs.sector_links.link.Given as goal

abbrev pub invariant-loop-i : goal.invariant-loop-i
invariant-loop-i l = AreLinks sector_in l.numbers (length l.fn.firsts) l.i l.firsts l.next
