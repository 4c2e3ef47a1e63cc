use Rattle.std.proofs.Common.{◌≡◌, ◌≤◌, pos, take}
use Rattle.std.specs.Prelude.{◌&&◌, count_by}
use Rattle.std.specs.Ordering.{int_eq}
use Rattle.map_level.specs.Links.{things_of}
use Rattle.game_warnings.specs.Skill.{is_there}
use Rattle.game_warnings.proofs.thing.target_count.Given as goal

abbrev pub invariant-loop-k : goal.invariant-loop-k
invariant-loop-k l = record {
  counted : l.count ≡ count_by (λ thing. int_eq thing.kind (pos 87) && is_there l.skill thing) (take l.k (things_of l.level));
  few : l.count ≤ l.k;
}
