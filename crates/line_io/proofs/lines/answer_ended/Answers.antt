use Rattle.std.proofs.Common.{◌++◌}
use Rattle.line_io.proofs.LineLemmas.{line_answer-take}
use Rattle.line_io.proofs.lines.answer_ended.Goals as goal

pub returns-clause-takes : goal.returns-clause-takes
returns-clause-takes g c = λ f told.
    rw (
      ← line_answer-take f (c.args.part.now ++ c.args.line.now),
      ← c.keep.ensures,
      ← c.bytes.ensures,
    ) (c.answer_line-answered.ensures.takes f told)
