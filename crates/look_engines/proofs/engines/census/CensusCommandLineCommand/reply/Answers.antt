use Rattle.line_io.proofs.NumberAnswersLemmas.{told_refusal}
use Rattle.look_engines.proofs.engines.CensusLemmas.{told_counts}
use Rattle.look_engines.proofs.engines.census.CensusCommandLineCommand.reply.Goals as goal

pub returns-in-Ok-areas-clause-takes : goal.returns-in-Ok-areas-clause-takes
returns-in-Ok-areas-clause-takes g c = λ answer told.
    rw (told_counts c.in-Ok.rect told c.in-Ok.ensures.read c.in-Ok.ensures.allowed c.in-Ok-areas.ensures.areas) c.write_areas.ensures.takes

pub returns-in-Err-clause-takes : goal.returns-in-Err-clause-takes
returns-in-Err-clause-takes g c = λ answer told.
    rw (told_refusal told.answers c.requires.short c.in-Err.refusal c.in-Err.ensures.refused) (rw c.text.ensures at c.emit.ensures.takes)
