use Rattle.std.proofs.Common.{rules}
use Rattle.atlas_page.specs.Messages.{item_start}
use Rattle.atlas_page.proofs.messages.prepend_start.Goals as goal

pub returns : goal.returns
unfolding item_start
returns c = search rules
