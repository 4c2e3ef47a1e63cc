use Rattle.std.proofs.Common.{refl}
use Rattle.lens_commands.proofs.assemble.prepend_wrong_line.Goals as goal

pub returns : goal.returns
returns c = rw (c.prepend_bytes-2.ensures.text, c.prepend_natural.ensures.text, c.prepend_bytes.ensures.text, c.requires) refl
