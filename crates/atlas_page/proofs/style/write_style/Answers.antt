use Rattle.std.proofs.Common.{rules}
use Rattle.atlas_page.specs.Style.{style_text}
use Rattle.atlas_page.proofs.style.write_style.Goals as goal

pub returns : goal.returns
unfolding style_text
returns g c = search rules
