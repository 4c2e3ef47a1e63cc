use Rattle.std.proofs.Common.{refl}
use Rattle.atlas_page.specs.MapView.{view_text}
use Rattle.atlas_page.proofs.map_view.prepend_view.Goals as goal

pub returns : goal.returns
unfolding view_text
returns c =
    rw (
      c.prepend_bytes-5.ensures.text,
      c.prepend_number-4.ensures.text,
      c.prepend_bytes-4.ensures.text,
      c.prepend_number-3.ensures.text,
      c.prepend_bytes-3.ensures.text,
      c.prepend_number-2.ensures.text,
      c.prepend_bytes-2.ensures.text,
      c.prepend_number.ensures.text,
      c.prepend_bytes.ensures.text,
      c.requires,
    ) refl
