use Rattle.std.proofs.Common.{refl}
use Rattle.map_picture.proofs.head.prepend_view.Goals as goal

pub returns : goal.returns
returns c =
    rw (
      c.prepend_bytes-5.ensures.text,
      c.prepend_number-4.ensures.text,
      c.prepend_bytes-4.ensures.text,
      c.prepend_number-3.ensures.text,
      c.prepend_bytes-3.ensures.text,
      c.prepend_number-2.ensures.text,
      c.prepend_bytes-2.ensures.text,
      c.prepend_number.ensures.text,
      c.prepend_bytes.ensures.text,
      c.requires,
    ) refl
