use Rattle.std.proofs.Common.{refl, arith}
use Rattle.map_tables.proofs.ListLemmas.{lists_begin_below, lists_begin_nowhere}
use Rattle.map_tables.proofs.words.Words.reach.Goals as goal

pub returns-then-is_end : goal.returns-then-is_end
returns-then-is_end c =
    lists_begin_below c.args.self.now _ (c.if-is_end.ensures.0 refl)
    (λ k past. c.loop-i.invariant k (omega arith))

pub returns : goal.returns
returns c = lists_begin_nowhere c.args.self.now (λ k. c.loop-i.invariant k (omega arith))
