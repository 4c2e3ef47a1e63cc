use Rattle.std.proofs.Common.{◌≡◌, ◌+◌, ◌*◌, ◌≤◌, take}
use Rattle.map_level.specs.Links.{sectors_of}
use Rattle.game_warnings.specs.Save.{specials_end}
use Rattle.game_warnings.proofs.save.specials_end.Given as goal

abbrev pub invariant-loop-s : goal.invariant-loop-s
invariant-loop-s l = record {
  is : l.at ≡ specials_end l.start (take l.s (sectors_of l.level));
  few : l.at ≤ l.start + 44 * l.s;
}
