use Rattle.std.proofs.Common.{◌≡◌, length, take}
use Rattle.wad_dir.specs.Entries.{joined, names}
use Rattle.wad_dir.proofs.WinnerLemmas.{NoneFrom}
use Rattle.wad_dir.proofs.set.Set.find.Given as goal

abbrev pub invariant-loop-k : goal.invariant-loop-k
invariant-loop-k g l =
    (l.first ≡ length (joined (take l.k l.self-inside.wads.items)))
    × NoneFrom (names l.self-inside.wads.items) l.name l.first
