use Rattle.std.proofs.Common.{◌≡◌, ◌+◌, length, take}
use Rattle.wad_dir.specs.Entries.{joined}
use Rattle.wad_dir.proofs.set.Set.listed.Given as goal

abbrev pub invariant-loop-i : goal.invariant-loop-i
invariant-loop-i g l = length (joined (take l.i l.wad-items)) + l.left ≡ l.g
