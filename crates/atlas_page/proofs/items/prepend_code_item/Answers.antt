use Rattle.std.proofs.Common.{rules}
use Rattle.atlas_page.specs.Items.{code_item}
use Rattle.atlas_page.proofs.items.prepend_code_item.Goals as goal

pub returns : goal.returns
unfolding code_item
returns c = search rules
