use Rattle.std.proofs.Common.{[], ◌∷◌, refl}
use Rattle.line_io.proofs.NumberAnswersLemmas.{told_refusal}
use Rattle.look_engines.proofs.engines.blocks.BlockCommandLineCommand.reply.Goals as goal

pub returns-in-Ok-clause-takes : goal.returns-in-Ok-clause-takes
returns-in-Ok-clause-takes g c = λ answer told.
    let pair = c.in-Ok.named.pair in
    let read = c.in-Ok.ensures.read in
    c.write_block.ensures.takes (answer c.args.content.now) (told.told c.args.content.now (pair.x ∷ pair.y ∷ []) read.read refl c.in-Ok.ensures.allowed)

pub returns-in-Err-clause-takes : goal.returns-in-Err-clause-takes
returns-in-Err-clause-takes g c = λ answer told.
    rw (told_refusal told c.requires.short c.in-Err.refusal c.in-Err.ensures.refused) (rw c.text.ensures at c.emit.ensures.takes)
