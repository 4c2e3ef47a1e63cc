use Rattle.std.proofs.Common.{arith, sym, ◌∙◌}
use Rattle.std.proofs.lemmas.Bool.{eqb-true}
use Rattle.later_demos.proofs.CommandLemmas.{none_begins}
use Rattle.later_demos.proofs.command.next_size.Goals as goal

pub returns-then-is_empty : goal.returns-then-is_empty
returns-then-is_empty c =
    none_begins _ _ (omega (arith, eqb-true _ _ (sym c.is_empty.ensures ∙ c.if-is_empty.true)))
