use Rattle.std.specs.Prelude.{not}
use Rattle.std.specs.Ordering.{int_eq}
use Rattle.map_level.specs.Links.{linedefs_of, no_side}
use Rattle.map_level.specs.Reading.{linedef_under}
use Rattle.game_warnings.proofs.CountLemmas.{count_few, count_more, linedef_here}
use Rattle.game_warnings.proofs.save.side_count.Goals as goal

pub loop-i-preserved : goal.loop-i-preserved
loop-i-preserved c =
    let level = c.args.level.now in
    let linedef = linedef_under level.reading c.at-linedef.result in
    let here = linedef_here level c.loop-i.i c.at-linedef.result (rw (← c.linedefs-linedefs.ensures.is) c.at-linedef.ensures) in
    record {
      front =
          count_more (λ l. not (int_eq l.side0 (no_side level.reading))) (linedefs_of level) c.loop-i.i linedef c.has_front.result c.loop-i.front c.counted-front.result
          here c.has_front.ensures c.loop-i.invariant.front c.counted-front.ensures;
      back =
          count_more (λ l. not (int_eq l.side1 (no_side level.reading))) (linedefs_of level) c.loop-i.i linedef c.has_back.result c.loop-i.back c.counted-back.result
          here c.has_back.ensures c.loop-i.invariant.back c.counted-back.ensures;
      few_front = count_few c.loop-i.front c.counted-front.result c.loop-i.i c.has_front.result c.counted-front.ensures c.loop-i.invariant.few_front;
      few_back = count_few c.loop-i.back c.counted-back.result c.loop-i.i c.has_back.result c.counted-back.ensures c.loop-i.invariant.few_back;
    }
