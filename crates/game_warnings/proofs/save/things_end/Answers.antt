use Rattle.std.proofs.Common.{◌≡◌, Some, arith}
use Rattle.std.specs.List.{slice_get}
use Rattle.map_level.specs.Links.{things_of}
use Rattle.game_warnings.proofs.SaveLemmas.{things_more}
use Rattle.game_warnings.proofs.save.things_end.Goals as goal

pub loop-k-preserved : goal.loop-k-preserved
loop-k-preserved c =
    let things = things_of c.args.level.now in
    let here : slice_get things c.loop-k.k ≡ Some c.at.result = rw (← c.things-things.ensures.is) c.at.ensures in
    record {
      is =
          things_more c.args.skill c.args.start things c.loop-k.k c.at.result c.loop-k.at c.behind_thing-at.result here c.loop-k.invariant.is
          c.behind_thing-at.ensures.is;
      few = omega (arith, c.behind_thing-at.ensures.few, c.loop-k.invariant.few);
    }
