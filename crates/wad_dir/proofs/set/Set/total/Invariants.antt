use Rattle.std.proofs.Common.{◌≡◌, ◌*◌, ◌≤◌, ◌^◌, length, take}
use Rattle.wad_dir.specs.Entries.{joined}
use Rattle.wad_dir.proofs.set.Set.total.Given as goal

abbrev pub invariant-loop-wad : goal.invariant-loop-wad
invariant-loop-wad g l =
    (l.total ≡ length (joined (take l.wad-index l.wad-items))) × (l.total ≤ 2 ^ 31 * l.wad-index)
