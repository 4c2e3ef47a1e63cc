use Rattle.std.proofs.Common.{◌≡◌, ◌+◌, ◌≤◌, ◌++◌, length, take}
use Rattle.std.specs.Prelude.{vec_len, vec_capacity}
use Rattle.wad_dir.specs.Packing.{lump_bytes}
use Rattle.wad_dir.proofs.packer.put_lumps.Given as goal

abbrev pub invariant-loop-lump : goal.invariant-loop-lump
invariant-loop-lump g l = record {
  lumps : l.file.items ≡ l.initial.file.items ++ lump_bytes (take l.lump-index l.lumps);
  len : vec_len l.file ≡ vec_len l.initial.file + length (lump_bytes (take l.lump-index l.lumps));
  room : vec_capacity l.initial.file ≤ vec_capacity l.file;
}
