use Rattle.std.proofs.Common.{◌≡◌, Some}
use Rattle.std.specs.List.{slice_get}
use Rattle.map_level.specs.Links.{things_of}
use Rattle.game_warnings.proofs.RankLemmas.{unaimed_alone}
use Rattle.game_warnings.proofs.thing.tell_unaimed.Goals as goal

pub tell_where-requires-clause-alone : goal.tell_where-requires-clause-alone
tell_where-requires-clause-alone g c =
    let at : slice_get (things_of c.args.level.now) c.args.k ≡ Some c.at-thing.result = rw (← c.things.ensures.is) c.at-thing.ensures in
    rw c.unaimed-skills.ensures (unaimed_alone c.args.level.now c.args.k c.at-thing.result at)
