use Rattle.atlas_page.proofs.TextLemmas.{text-parts}
use Rattle.atlas_page.proofs.text.write_page_path.Goals as goal

pub returns : goal.returns
returns g c = rw (text-parts c.args.path.now) c.write_parts.ensures
