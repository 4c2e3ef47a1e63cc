use Rattle.map_tables.proofs.ListLemmas.{HasNoEndWithin}
use Rattle.map_tables.proofs.words.Words.end_from.Given as goal

abbrev pub invariant-loop-i : goal.invariant-loop-i
invariant-loop-i l = HasNoEndWithin l.self l.place l.i
