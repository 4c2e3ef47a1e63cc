use Rattle.level_codes.proofs.SetLemmas.{unwritten}
use Rattle.level_codes.proofs.set.CodeSet.written.Goals as goal

pub returns-clause-none : goal.returns-clause-none
returns-clause-none c = unwritten c.args.word.now c.span.result (λ code is. c.in_default.not-Some code ((c.called.ensures code).1 is)) c.span.ensures.none
