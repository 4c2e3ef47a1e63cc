use Rattle.std.proofs.Common.{◌≡◌, ◌+◌, ◌++◌, take, vec_capacity, vec_len}
use Rattle.wad_dir.proofs.set.push_again.Given as goal

abbrev pub invariant-loop-wad : goal.invariant-loop-wad
invariant-loop-wad g l = record {
  items : l.wads.items ≡ l.fn.wads.items ++ take l.wad-index l.files;
  counted : vec_len l.wads ≡ vec_len l.fn.wads + l.wad-index;
  room : vec_capacity l.wads ≡ vec_capacity l.fn.wads;
}
