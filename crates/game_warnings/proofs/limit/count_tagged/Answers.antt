use Rattle.std.proofs.Common.{◌≡◌, ◌≤◌, Some, length, arith}
use Rattle.std.specs.List.{slice_get}
use Rattle.map_level.specs.Links.{sectors_of}
use Rattle.game_warnings.specs.Limit.{is_perpetual_tag}
use Rattle.game_warnings.proofs.CountLemmas.{count_all, count_few, count_more}
use Rattle.game_warnings.proofs.limit.count_tagged.Goals as goal

pub counted-count-requires : goal.counted-count-requires
counted-count-requires c = omega (arith, c.sectors-sectors.ensures.few)

pub loop-s-preserved : goal.loop-s-preserved
loop-s-preserved c =
    let level = c.args.level.now in
    let here : slice_get (sectors_of level) c.loop-s.s ≡ Some c.at.result = rw (← c.sectors-sectors.ensures.is) c.at.ensures in
    record {
      counted =
          count_more (λ sector. is_perpetual_tag c.args.level.now sector.tag) (sectors_of level) c.loop-s.s c.at.result c.is_perpetual_sector.result c.loop-s.count c.counted-count.result
          here c.is_perpetual_sector.ensures c.loop-s.invariant.counted c.counted-count.ensures;
      few = count_few c.loop-s.count c.counted-count.result c.loop-s.s c.is_perpetual_sector.result c.counted-count.ensures c.loop-s.invariant.few;
    }

pub returns : goal.returns
returns c =
    let level = c.args.level.now in
    let past : length (sectors_of level) ≤ c.loop-s.s = rw (← c.sectors-sectors.ensures.is, ← c.len-s-end.ensures) c.loop-s-test.false in
    count_all (λ sector. is_perpetual_tag c.args.level.now sector.tag) (sectors_of level) c.loop-s.s c.loop-s.count past c.loop-s.invariant.counted
