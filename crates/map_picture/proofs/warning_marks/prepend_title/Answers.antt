use Rattle.std.proofs.Common.{refl}
use Rattle.map_picture.proofs.warning_marks.prepend_title.Goals as goal

pub returns : goal.returns
returns c =
    rw (
      c.prepend_bytes-5.ensures.text,
      c.name.ensures.name,
      c.prepend_bytes-4.ensures.text,
      c.prepend_natural.ensures.text,
      c.from.ensures,
      c.number.ensures,
      c.prepend_bytes-3.ensures.text,
      c.prepend_bytes-2.ensures.text,
      c.text.ensures.text,
      c.prepend_bytes.ensures.text,
      c.code.ensures,
      c.requires,
    ) refl
