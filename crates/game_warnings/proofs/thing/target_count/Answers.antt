use Rattle.std.proofs.Common.{◌≡◌, ◌≤◌, pos, Some, length, arith}
use Rattle.std.specs.Prelude.{◌&&◌}
use Rattle.std.specs.Ordering.{int_eq}
use Rattle.std.specs.List.{slice_get}
use Rattle.map_level.specs.Links.{things_of}
use Rattle.game_warnings.specs.Skill.{is_there}
use Rattle.game_warnings.proofs.CountLemmas.{count_all, count_few, count_more}
use Rattle.game_warnings.proofs.thing.target_count.Goals as goal

pub counted-count-requires : goal.counted-count-requires
counted-count-requires c = omega (arith, c.things-things.ensures.few)

pub loop-k-preserved : goal.loop-k-preserved
loop-k-preserved c =
    let level = c.args.level.now in
    let here : slice_get (things_of level) c.loop-k.k ≡ Some c.at.result = rw (← c.things-things.ensures.is) c.at.ensures in
    record {
      counted =
          count_more (λ thing. int_eq thing.kind (pos 87) && is_there c.args.skill thing) (things_of level) c.loop-k.k c.at.result c.is_target.result c.loop-k.count c.counted-count.result
          here c.is_target.ensures c.loop-k.invariant.counted c.counted-count.ensures;
      few = count_few c.loop-k.count c.counted-count.result c.loop-k.k c.is_target.result c.counted-count.ensures c.loop-k.invariant.few;
    }

pub returns : goal.returns
returns c =
    let level = c.args.level.now in
    let past : length (things_of level) ≤ c.loop-k.k = rw (← c.things-things.ensures.is, ← c.len-k-end.ensures) c.loop-k-test.false in
    count_all (λ thing. int_eq thing.kind (pos 87) && is_there c.args.skill thing) (things_of level) c.loop-k.k c.loop-k.count past c.loop-k.invariant.counted
