use Rattle.std.proofs.Common.{refl}
use Rattle.atlas_page.specs.Messages.{left_item}
use Rattle.atlas_page.proofs.messages.prepend_left.Goals as goal

pub returns : goal.returns
unfolding left_item
returns c =
    rw (
      c.prepend_bytes-6.ensures.text,
      c.prepend_bytes-5.ensures.text,
      c.name-2.ensures.name,
      c.class.ensures,
      c.prepend_bytes-4.ensures.text,
      c.prepend_bytes-3.ensures.text,
      c.name.ensures.name,
      c.prepend_bytes-2.ensures.text,
      c.prepend_natural.ensures.text,
      c.prepend_bytes.ensures.text,
      c.requires,
    ) refl
