use Rattle.std.proofs.Common.{◌≡◌, ◌≤◌, length, map}
use Rattle.released.specs.CheckName.{copied, released_search}
use Rattle.released.proofs.name.released_number.Given as goal

abbrev pub invariant-loop-i : goal.invariant-loop-i
invariant-loop-i l =
    (l.i ≤ length l.names)
    × (released_search (map copied l.names) l.name (length l.names)
    ≡ released_search (map copied l.names) l.name l.i)
