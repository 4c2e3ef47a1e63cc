use Rattle.std.proofs.Common.{◌<◌, ◌≤◌}
use Rattle.game_warnings.specs.Patches.{listed_count}
use Rattle.game_warnings.proofs.PatchLemmas.{lacking_here, lacking_past}
use Rattle.game_warnings.proofs.patches.lacking_in.Goals as goal

pub returns : goal.returns
returns g c =
    let past : listed_count 4 c.args.lump.now ≤ c.loop-k.k = rw (← c.listed_count-k-end.ensures.count) c.loop-k-test.false in
    lacking_past c.args.set.now c.args.pnames.now c.args.lump.now c.loop-k.k past c.loop-k.invariant
