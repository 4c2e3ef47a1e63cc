use Rattle.std.proofs.Common.{◌≡◌, ◌+◌, ◌*◌, ◌≤◌, take}
use Rattle.map_level.specs.Links.{things_of}
use Rattle.game_warnings.specs.Save.{things_end}
use Rattle.game_warnings.proofs.save.things_end.Given as goal

abbrev pub invariant-loop-k : goal.invariant-loop-k
invariant-loop-k l = record {
  is : l.at ≡ things_end l.skill l.start (take l.k (things_of l.level));
  few : l.at ≤ l.start + 158 * l.k;
}
