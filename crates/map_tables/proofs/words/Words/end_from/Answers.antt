use Rattle.std.proofs.Common.{inl, inr, refl, arith}
use Rattle.std.proofs.lemmas.Bool.{cases_lt}
use Rattle.std.proofs.lemmas.Option.{slice_get_within}
use Rattle.map_tables.proofs.ListLemmas.{list_to_end, no_list_at}
use Rattle.map_tables.proofs.words.Words.end_from.Goals as goal

pub returns-then-is_end-clause-list : goal.returns-then-is_end-clause-list
returns-then-is_end-clause-list c =
    list_to_end c.args.self.now c.args.place c.loop-i.i (omega arith)
    (c.if-is_end.ensures.0 refl) c.loop-i.invariant

pub returns-clause-none : goal.returns-clause-none
returns-clause-none c =
    no_list_at c.args.self.now c.args.place (λ k from is. elim (cases_lt k c.loop-i.i) [
      | inl below ↦ c.loop-i.invariant k from below is
      | inr past ↦
          omega (arith, past, slice_get_within c.args.self.now.numbers k c.args.self.now.end is)
    ])
