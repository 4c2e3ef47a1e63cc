use Rattle.std.proofs.Common.{◌≡◌, ◌≤◌, take}
use Rattle.std.specs.Prelude.{count_by, not}
use Rattle.std.specs.Ordering.{int_eq}
use Rattle.map_level.specs.Links.{linedefs_of, no_side}
use Rattle.game_warnings.proofs.save.side_count.Given as goal

abbrev pub invariant-loop-i : goal.invariant-loop-i
invariant-loop-i l = record {
  front : l.front ≡ count_by (λ linedef. not (int_eq linedef.side0 (no_side l.level.reading))) (take l.i (linedefs_of l.level));
  back : l.back ≡ count_by (λ linedef. not (int_eq linedef.side1 (no_side l.level.reading))) (take l.i (linedefs_of l.level));
  few_front : l.front ≤ l.i;
  few_back : l.back ≤ l.i;
}
