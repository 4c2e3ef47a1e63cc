use Rattle.std.proofs.Common.{◌≡◌, ◌+◌, ◌*◌, ◌≤◌, length, take}
use Rattle.wad_dir.specs.Packing.{lump_bytes}
use Rattle.wad_dir.proofs.packer.file_size.Given as goal

abbrev pub invariant-loop-lump : goal.invariant-loop-lump
invariant-loop-lump l =
    (l.size ≡ 12 + length (lump_bytes (take l.lump-index l.lumps)) + 16 * l.lump-index)
    × (l.size ≤ 2147483647)
