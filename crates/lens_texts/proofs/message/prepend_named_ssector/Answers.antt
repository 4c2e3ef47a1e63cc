use Rattle.lens_texts.proofs.message.prepend_named_ssector.Goals as goal

pub returns-clause-text : goal.returns-clause-text
returns-clause-text c = cc
