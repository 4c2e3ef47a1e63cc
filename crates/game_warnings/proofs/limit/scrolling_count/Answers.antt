use Rattle.std.proofs.Common.{◌≤◌, length, arith}
use Rattle.map_level.specs.Links.{linedefs_of}
use Rattle.map_level.specs.Reading.{linedef_under}
use Rattle.game_numbers.specs.Number.{is_one_of}
use Rattle.game_numbers.specs.Specials.{scrolling}
use Rattle.game_warnings.proofs.CountLemmas.{count_all, count_few, count_more, linedef_here, linedefs_past}
use Rattle.game_warnings.proofs.limit.scrolling_count.Goals as goal

pub counted-count-requires : goal.counted-count-requires
counted-count-requires c = omega (arith, c.linedefs-linedefs.ensures.few)

pub loop-i-preserved : goal.loop-i-preserved
loop-i-preserved c =
    let level = c.args.level.now in
    let here = linedef_here level c.loop-i.i c.at.result (rw (← c.linedefs-linedefs.ensures.is) c.at.ensures) in
    record {
      counted =
          count_more (λ linedef. is_one_of scrolling linedef.special) (linedefs_of level) c.loop-i.i (linedef_under level.reading c.at.result) c.scrolls.result c.loop-i.count c.counted-count.result
          here c.scrolls.ensures c.loop-i.invariant.counted c.counted-count.ensures;
      few = count_few c.loop-i.count c.counted-count.result c.loop-i.i c.scrolls.result c.counted-count.ensures c.loop-i.invariant.few;
    }

pub returns : goal.returns
returns c =
    let level = c.args.level.now in
    let past : length level.linedefs.records ≤ c.loop-i.i = rw (← c.linedefs-linedefs.ensures.is, ← c.len-i-end.ensures) c.loop-i-test.false in
    count_all (λ linedef. is_one_of scrolling linedef.special) (linedefs_of level) c.loop-i.i c.loop-i.count (linedefs_past level c.loop-i.i past) c.loop-i.invariant.counted
