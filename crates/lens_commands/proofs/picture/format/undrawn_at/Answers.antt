use Rattle.lens_engines.proofs.UnreadLemmas.{lumps_of_unread}
use Rattle.lens_commands.proofs.picture.format.undrawn_at.Goals as goal

pub returns-then-starts_at-clause-lump : goal.returns-then-starts_at-clause-lump
returns-then-starts_at-clause-lump g c = lumps_of_unread c.args.set.now c.args.g c.unread_at.result c.unread_at.ensures.unread
