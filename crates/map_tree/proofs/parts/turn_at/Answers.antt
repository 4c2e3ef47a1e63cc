use Rattle.std.proofs.Common.{inl, inr, refl}
use Rattle.map_tree.proofs.parts.turn_at.Goals as goal

pub column_parts-requires-clause-cut : goal.column_parts-requires-clause-cut
column_parts-requires-clause-cut c = rw c.at.ensures at (c.in-None.ensures.none.0 refl)

pub returns-in-Some : goal.returns-in-Some
returns-in-Some c = record { s = c.in-Some.s; on = rw c.at.ensures at c.in-Some.ensures.whole; next_is = rw c.word_at.ensures }

pub returns-then-change_together : goal.returns-then-change_together
returns-then-change_together c = inr c.column_parts.ensures

pub returns-else-change_together : goal.returns-else-change_together
returns-else-change_together c = inl (c.change_together.ensures.apart c.if-change_together.false, c.row_parts.ensures)
