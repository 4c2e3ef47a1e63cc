use Rattle.lens_texts.proofs.BrokenLemmas.{segs_before}
use Rattle.lens_texts.proofs.broken.prepend_segs.Goals as goal

pub returns-clause-text : goal.returns-clause-text
returns-clause-text c = rw (segs_before c.args.counted c.args.there c.args.line.now) (cc)
