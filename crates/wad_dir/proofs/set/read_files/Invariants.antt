use Rattle.std.proofs.Common.{◌≡◌, ◌≤◌, length, map, take}
use Rattle.std.specs.List.{All}
use Rattle.std.specs.Prelude.{vec_len, vec_capacity}
use Rattle.wad_dir.specs.Wad.{IsRead}
use Rattle.wad_dir.proofs.set.read_files.Given as goal

abbrev pub invariant-loop-i : goal.invariant-loop-i
invariant-loop-i g l = record {
  bytes_are : map (λ file. file.bytes) l.wads.items ≡ map g.F.AsBytes.bytes (take l.i l.files);
  are_read : All IsRead l.wads.items;
  counted : vec_len l.wads ≡ l.i;
  room : length l.files ≤ vec_capacity l.wads;
}
