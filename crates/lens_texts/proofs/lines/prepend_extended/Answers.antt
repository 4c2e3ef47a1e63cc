use Rattle.lens_texts.proofs.lines.prepend_extended.Goals as goal

pub returns-clause-text : goal.returns-clause-text
returns-clause-text c = cc
