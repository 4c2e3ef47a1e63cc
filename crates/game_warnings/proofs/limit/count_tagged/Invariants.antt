use Rattle.std.proofs.Common.{◌≡◌, ◌≤◌, take}
use Rattle.std.specs.Prelude.{count_by}
use Rattle.map_level.specs.Links.{sectors_of}
use Rattle.game_warnings.specs.Limit.{is_perpetual_tag}
use Rattle.game_warnings.proofs.limit.count_tagged.Given as goal

abbrev pub invariant-loop-s : goal.invariant-loop-s
invariant-loop-s l = record {
  counted : l.count ≡ count_by (λ sector. is_perpetual_tag l.level sector.tag) (take l.s (sectors_of l.level));
  few : l.count ≤ l.s;
}
