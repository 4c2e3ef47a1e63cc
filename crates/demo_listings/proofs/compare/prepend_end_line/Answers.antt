use Rattle.std.proofs.Common.{refl}
use Rattle.demo_listings.proofs.compare.prepend_end_line.Goals as goal

pub returns : goal.returns
returns c = rw (c.prepend_bytes-3.ensures.text, c.prepend_bytes-2.ensures.text, c.prepend_natural.ensures.text, c.prepend_bytes.ensures.text, c.requires.empty) refl
