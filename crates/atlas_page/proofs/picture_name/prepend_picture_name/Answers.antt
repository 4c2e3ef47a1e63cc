use Rattle.std.proofs.Common.{refl}
use Rattle.atlas_page.specs.PictureName.{picture_name}
use Rattle.atlas_page.proofs.picture_name.prepend_picture_name.Goals as goal

pub returns : goal.returns
unfolding picture_name
returns c =
    rw (c.prepend_natural-2.ensures.text, c.prepend_bytes-2.ensures.text, c.prepend_natural.ensures.text, c.prepend_bytes.ensures.text, c.requires) refl
