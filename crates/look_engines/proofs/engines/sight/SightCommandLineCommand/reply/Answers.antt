use Rattle.std.proofs.Common.{sym}
use Rattle.line_io.proofs.NumberAnswersLemmas.{told_refusal}
use Rattle.look_engines.proofs.engines.sight.SightCommandLineCommand.reply.Goals as goal

pub returns-in-Err-clause-takes : goal.returns-in-Err-clause-takes
returns-in-Err-clause-takes g c = λ answer told.
    let refused = rw (sym c.args.self.now.counted) at c.in-Err.ensures.refused in
    rw (told_refusal told c.requires.short c.in-Err.refusal refused) (rw c.text.ensures at c.emit-in-Err.ensures.takes)
