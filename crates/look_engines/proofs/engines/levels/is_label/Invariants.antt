use Rattle.std.proofs.Common.{◌≡◌, ◌+◌, ◌-◌, ◌<◌, ◌≤◌, ℕ}
use Rattle.std.specs.List.{slice_get}
use Rattle.map_level.specs.LinkFaults.{usual_names}
use Rattle.wad_dir.specs.Entries.{names}
use Rattle.look_engines.proofs.engines.levels.is_label.Given as goal

abbrev pub invariant-loop-k : goal.invariant-loop-k
invariant-loop-k g l = record {
  from : 1 ≤ l.k;
  to : l.k ≤ 11;
  usual : (j : ℕ) → 1 ≤ j → j < l.k → slice_get (names l.set) (l.g + j) ≡ slice_get usual_names (j - 1);
}
