use Rattle.std.proofs.lemmas.List.{append_assoc}
use Rattle.lens_commands.proofs.assemble.prepend_tic_command.Goals as goal

pub returns : goal.returns
returns c = rw (c.prepend_bytes-3.ensures.text, c.prepend_natural.ensures.text, c.prepend_bytes-2.ensures.text, c.prepend_small.ensures.text, c.prepend_bytes.ensures.text) (simp append_assoc)
