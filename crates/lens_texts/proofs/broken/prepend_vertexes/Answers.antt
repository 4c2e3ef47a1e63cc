use Rattle.lens_texts.proofs.BrokenLemmas.{vertexes_before}
use Rattle.lens_texts.proofs.broken.prepend_vertexes.Goals as goal

pub returns-clause-text : goal.returns-clause-text
returns-clause-text c = rw (vertexes_before c.args.made c.args.there c.args.line.now) (cc)
