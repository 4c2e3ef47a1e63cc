use Rattle.std.proofs.Common.{◌≡◌, Some, arith}
use Rattle.std.specs.List.{slice_get}
use Rattle.map_level.specs.Links.{sectors_of}
use Rattle.game_warnings.proofs.SaveLemmas.{specials_more}
use Rattle.game_warnings.proofs.save.specials_end.Goals as goal

pub loop-s-preserved : goal.loop-s-preserved
loop-s-preserved c =
    let sectors = sectors_of c.args.level.now in
    let here : slice_get sectors c.loop-s.s ≡ Some c.at.result = rw (← c.sectors-sectors.ensures.is) c.at.ensures in
    record {
      is =
          specials_more c.args.start sectors c.loop-s.s c.at.result c.loop-s.at c.behind_special-at.result here c.loop-s.invariant.is
          c.behind_special-at.ensures.is;
      few = omega (arith, c.behind_special-at.ensures.few, c.loop-s.invariant.few);
    }
