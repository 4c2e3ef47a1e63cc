use Rattle.std.proofs.Common.{refl}
use Rattle.map_picture.proofs.things.prepend_thing.Goals as goal

pub returns : goal.returns
returns c =
    rw (
      c.prepend_bytes-5.ensures.text,
      c.prepend_natural.ensures.text,
      c.prepend_bytes-4.ensures.text,
      c.prepend_word-3.ensures.text,
      c.prepend_bytes-3.ensures.text,
      c.prepend_word-2.ensures.text,
      c.prepend_bytes-2.ensures.text,
      c.prepend_word.ensures.text,
      c.prepend_bytes.ensures.text,
      c.requires,
    ) refl
