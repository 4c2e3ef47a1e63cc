use Rattle.atlas_page.specs.Page.{page_text}
use Rattle.atlas_page.proofs.page.write_page.Goals as goal

pub returns : goal.returns
unfolding page_text
returns g c = c.write_parts.ensures
