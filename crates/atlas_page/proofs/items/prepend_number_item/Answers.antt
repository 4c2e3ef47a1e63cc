use Rattle.std.proofs.Common.{refl}
use Rattle.atlas_page.specs.Items.{number_item}
use Rattle.atlas_page.proofs.items.prepend_number_item.Goals as goal

pub returns : goal.returns
unfolding number_item
returns c =
    rw (
      c.prepend_bytes-4.ensures.text,
      c.prepend_natural.ensures.text,
      c.prepend_bytes-3.ensures.text,
      c.prepend_bytes-2.ensures.text,
      c.prepend_bytes.ensures.text,
      c.requires.empty,
    ) refl
