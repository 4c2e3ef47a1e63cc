use Rattle.std.proofs.Common.{refl}
use Rattle.level_starts.specs.declared.format.Format.TheVariants.{Udmf, Incomplete, Hexen, Outside, Extended, Doom}
use Rattle.lens_engines.proofs.later.unread_at.Goals as goal

pub broken_at-requires : goal.broken_at-requires
broken_at-requires g c = ((c.in-Extended.ensures (Extended c.in-Extended.tag)).0 refl).0.1

pub returns-in-Udmf-clause-unread : goal.returns-in-Udmf-clause-unread
returns-in-Udmf-clause-unread g c = (c.in-Udmf.ensures Udmf).0 refl

pub returns-in-Incomplete-clause-unread : goal.returns-in-Incomplete-clause-unread
returns-in-Incomplete-clause-unread g c = (c.in-Incomplete.ensures (Incomplete c.in-Incomplete.k)).0 refl

pub returns-in-Hexen-clause-unread : goal.returns-in-Hexen-clause-unread
returns-in-Hexen-clause-unread g c = (c.in-Hexen.ensures Hexen).0 refl

pub returns-in-Outside-clause-unread : goal.returns-in-Outside-clause-unread
returns-in-Outside-clause-unread g c = (c.in-Outside.ensures (Outside c.in-Outside.k)).0 refl

pub returns-in-Extended-clause-unread : goal.returns-in-Extended-clause-unread
returns-in-Extended-clause-unread g c = ((c.in-Extended.ensures (Extended c.in-Extended.tag)).0 refl, c.broken_at.ensures)

pub returns-in-Doom-clause-doom : goal.returns-in-Doom-clause-doom
returns-in-Doom-clause-doom g c = (c.in-Doom.ensures Doom).0 refl
