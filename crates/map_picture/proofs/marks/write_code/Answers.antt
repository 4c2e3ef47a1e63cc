use Rattle.std.proofs.Common.{sym, ◌∙◌}
use Rattle.map_picture.proofs.MarkLemmas.{unmarked}
use Rattle.map_picture.proofs.marks.write_code.Goals as goal

pub returns-in-Nothing-clause-text : goal.returns-in-Nothing-clause-text
returns-in-Nothing-clause-text g c = λ found are.
    rw (unmarked c.args.counted.now c.args.code found (sym c.marked_by.ensures ∙ c.in-Nothing.is)) c.emit.ensures
