use Rattle.std.proofs.Common.{◌≡◌, ℕ, ◌+◌, ◌<◌, length}
use Rattle.std.specs.List.{slice_get}
use Rattle.wad_dir.specs.Entries.{names}
use Rattle.map_level.proofs.level.names_from.Given as goal

abbrev pub invariant-loop-k : goal.invariant-loop-k
invariant-loop-k g l = record {
  eleven : length l.names ≡ 11;
  found : (j : ℕ) → j < l.k → slice_get l.names j ≡ slice_get (names l.set) (l.label + j);
}
