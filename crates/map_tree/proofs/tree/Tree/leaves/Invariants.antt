use Rattle.map_tree.proofs.DescentLemmas.{GoesDown}
use Rattle.map_tree.proofs.tree.Tree.leaves.Given as goal

abbrev pub invariant-turns : goal.invariant-turns
invariant-turns l =
    GoesDown l.self l.p l.a l._turn × GoesDown l.self l.q l.b l._turn × GoesDown l.self l.r l.c l._turn × GoesDown l.self l.s l.d l._turn
