use Rattle.std.proofs.Common.{◌≡◌, ◌≤◌, pos, take}
use Rattle.std.specs.Prelude.{count_by}
use Rattle.std.specs.Ordering.{int_eq}
use Rattle.game_warnings.proofs.zero_tag.zero_tagged.Given as goal

abbrev pub invariant-loop-s : goal.invariant-loop-s
invariant-loop-s l = record {
  counted : l.count ≡ count_by (λ sector. int_eq sector.tag (pos 0)) (take l.s l.sectors.records);
  few : l.count ≤ l.s;
}
