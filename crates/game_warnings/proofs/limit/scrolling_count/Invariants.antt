use Rattle.std.proofs.Common.{◌≡◌, ◌≤◌, take}
use Rattle.std.specs.Prelude.{count_by}
use Rattle.map_level.specs.Links.{linedefs_of}
use Rattle.game_numbers.specs.Number.{is_one_of}
use Rattle.game_numbers.specs.Specials.{scrolling}
use Rattle.game_warnings.proofs.limit.scrolling_count.Given as goal

abbrev pub invariant-loop-i : goal.invariant-loop-i
invariant-loop-i l = record {
  counted : l.count ≡ count_by (λ linedef. is_one_of scrolling linedef.special) (take l.i (linedefs_of l.level));
  few : l.count ≤ l.i;
}
