use Rattle.lens_engines.proofs.WarnedLemmas.{AreWarnedTo}
use Rattle.lens_engines.proofs.warned.warned_by.Given as goal

abbrev pub invariant-codes : goal.invariant-codes
invariant-codes g l = AreWarnedTo l.ignored l.resources l.checks l.most l.rank l.all.items
