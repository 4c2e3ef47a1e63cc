use Rattle.std.proofs.Common.{FitsSigned, w16, refl, rules}
use Rattle.std.proofs.lemmas.Int.{to_z-of_z}
use Rattle.map_picture.proofs.things.prepend_place.Goals as goal

pub returns : goal.returns
returns c =
    let fits : FitsSigned w16 c.args.thing.now.kind = search rules in
    let its_class = simp to_z-of_z at c.class_of.ensures in
    rw (
      c.prepend_bytes-5.ensures.text,
      c.prepend_bytes-4.ensures.text,
      c.class_name.ensures.name,
      its_class,
      c.prepend_bytes-3.ensures.text,
      c.prepend_word-2.ensures.text,
      c.prepend_bytes-2.ensures.text,
      c.prepend_word.ensures.text,
      c.prepend_bytes.ensures.text,
      c.requires,
    ) refl
