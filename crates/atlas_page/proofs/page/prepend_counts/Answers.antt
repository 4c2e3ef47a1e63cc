use Rattle.std.proofs.Common.{refl}
use Rattle.atlas_page.specs.Page.{title_counts}
use Rattle.atlas_page.proofs.page.prepend_counts.Goals as goal

pub returns : goal.returns
unfolding title_counts
returns c =
    rw (
      c.prepend_bytes-3.ensures.text,
      c.prepend_natural-2.ensures.text,
      c.prepend_bytes-2.ensures.text,
      c.prepend_natural.ensures.text,
      c.prepend_bytes.ensures.text,
      c.requires,
    ) refl
