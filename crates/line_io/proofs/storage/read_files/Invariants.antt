use Rattle.std.proofs.Common.{◌≡◌, ◌+◌, map, take, vec_len}
use Rattle.line_io.specs.Storage.{AreHeld, bytes_of, total_length}
use Rattle.line_io.proofs.storage.read_files.Given as goal

abbrev pub invariant-loop-place : goal.invariant-loop-place
invariant-loop-place g l = record {
  held : AreHeld (g.S.Storage.held l.storage) (map g.P.FilePath.spelled (take l.place l.paths)) (bytes_of l.files.items);
  total : total_length (bytes_of l.files.items) + l.left ≡ l.most;
  count : vec_len l.files ≡ l.place;
}
