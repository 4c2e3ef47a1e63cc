use Rattle.std.proofs.Common.{inl, inr, refl, rules}
use Rattle.wad_page.proofs.DrawQuestionLemmas.{no_count}
use Rattle.wad_page.proofs.draw.view_of.Goals as goal

pub returns-in_default-clause-none : goal.returns-in_default-clause-none
returns-in_default-clause-none c = elim (no_count c.args.question.now.cells c.new.result c.new.ensures c.in_default.not-Some) [
  | inl none ↦ inl none
  | inr many ↦ inr (inl many)
]

pub returns-then-question-eq0-clause-some : goal.returns-then-question-eq0-clause-some
returns-then-question-eq0-clause-some c = record { framed = search rules; many = ((c.new.ensures c.in-Some.cells).0 c.in-Some.is).0; plain = refl }

pub returns-clause-some : goal.returns-clause-some
returns-clause-some c = record { framed = search rules; many = ((c.new.ensures c.in-Some.cells).0 c.in-Some.is).0; plain = refl }
