use Rattle.std.proofs.Common.{refl}
use Rattle.look_engines.specs.Listing.{header_line}
use Rattle.look_engines.proofs.listing.prepend_header.Goals as goal

pub returns : goal.returns
unfolding header_line
returns c = rw (c.prepend_field-13.ensures.text, c.prepend_field-12.ensures.text, c.prepend_field-11.ensures.text, c.prepend_field-10.ensures.text, c.prepend_field-9.ensures.text, c.prepend_field-8.ensures.text, c.prepend_field-7.ensures.text, c.prepend_field-6.ensures.text, c.prepend_field-5.ensures.text, c.prepend_field-4.ensures.text, c.prepend_field-3.ensures.text, c.prepend_field-2.ensures.text, c.prepend_field.ensures.text, c.prepend_bytes.ensures.text, c.requires) refl
