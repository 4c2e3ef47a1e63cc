use Rattle.std.proofs.Common.{◌≡◌, ◌≤◌, ◌*◌, take}
use Rattle.std.specs.Prelude.{sum_by}
use Rattle.std.specs.List.{range_with_len}
use Rattle.game_warnings.specs.Patches.{listed_count, patches_of}
use Rattle.game_warnings.proofs.patches.patch_total.Given as goal

abbrev pub invariant-loop-k : goal.invariant-loop-k
invariant-loop-k l = record {
  sum : l.total ≡ sum_by (patches_of l.lump) (take l.k (range_with_len 0 (listed_count 4 l.lump)));
  few : l.total ≤ 32768 * l.k;
}
