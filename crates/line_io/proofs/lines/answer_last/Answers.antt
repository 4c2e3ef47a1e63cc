use Rattle.std.proofs.Common.{◌≡◌, [], refl}
use Rattle.std.proofs.lemmas.Bool.{false≢true}
use Rattle.line_io.proofs.LineLemmas.{last_answer_empty, last_answer_some}
use Rattle.line_io.proofs.WriteLemmas.{TakesText-nothing}
use Rattle.line_io.proofs.lines.answer_last.Goals as goal

pub returns-then-is_empty-clause-takes : goal.returns-then-is_empty-clause-takes
returns-then-is_empty-clause-takes g c = λ f told.
    let empty : c.args.part.now ≡ [] = c.if-is_empty.ensures.0 refl in
    rw (last_answer_empty f _ empty) (TakesText-nothing _ _)

pub returns-else-is_empty-clause-takes : goal.returns-else-is_empty-clause-takes
returns-else-is_empty-clause-takes g c = λ f told.
    rw (
      last_answer_some f c.args.part.now (λ h. false≢true (c.if-is_empty.ensures.1 h)),
      ← c.bytes.ensures,
    ) (c.answer_line.ensures.takes f told)
