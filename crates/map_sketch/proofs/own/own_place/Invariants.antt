use Rattle.wad_dir.specs.Entries.{names}
use Rattle.map_sketch.proofs.OwnLemmas.{ArePassed}
use Rattle.map_sketch.proofs.own.own_place.Given as goal

abbrev pub invariant-loop-k : goal.invariant-loop-k
invariant-loop-k g l = ArePassed (names l.set) l.fn.g l.fn.name l.k
