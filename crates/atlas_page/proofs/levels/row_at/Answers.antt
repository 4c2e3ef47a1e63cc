use Rattle.lens_engines.proofs.UnreadLemmas.{lump_of_unread}
use Rattle.atlas_page.proofs.levels.row_at.Goals as goal

pub new-requires : goal.new-requires
new-requires g c = lump_of_unread c.args.set.now c.args.g c.in-Some.unread c.in-Some.ensures.unread

pub judged_row-requires-clause-is : goal.judged_row-requires-clause-is
judged_row-requires-clause-is g c = c.in-None.ensures.doom
