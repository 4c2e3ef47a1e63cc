use Rattle.std.proofs.Common.{◌≡◌, ◌≤◌, take}
use Rattle.std.specs.Prelude.{count_by}
use Rattle.map_level.specs.Links.{linedefs_of}
use Rattle.game_numbers.specs.Number.{is_one_of}
use Rattle.game_numbers.specs.Specials.{locks}
use Rattle.game_warnings.proofs.lock.locked.Given as goal

abbrev pub invariant-loop-i : goal.invariant-loop-i
invariant-loop-i l = record {
  counted : l.count ≡ count_by (λ linedef. is_one_of (locks l.key) linedef.special) (take l.i (linedefs_of l.level));
  few : l.count ≤ l.i;
}
