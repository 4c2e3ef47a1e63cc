use Rattle.lens_texts.proofs.BrokenLemmas.{cut_before}
use Rattle.lens_texts.proofs.broken.prepend_cut.Goals as goal

pub returns-clause-text : goal.returns-clause-text
returns-clause-text c = rw (cut_before c.args.lump c.args.part c.args.line.now) (cc)
