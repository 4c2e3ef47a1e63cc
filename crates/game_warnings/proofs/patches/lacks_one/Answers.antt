use Rattle.std.proofs.Common.{◌≤◌}
use Rattle.game_warnings.specs.Patches.{patch_count}
use Rattle.game_warnings.proofs.PatchLemmas.{lacks_past}
use Rattle.game_warnings.proofs.patches.lacks_one.Goals as goal

pub returns : goal.returns
returns g c =
    let past : patch_count c.args.lump.now c.args.at ≤ c.loop-j.j = rw (← c.patch_count-j-end.ensures.count) c.loop-j-test.false in
    lacks_past c.args.set.now c.args.pnames.now c.args.lump.now c.args.at c.loop-j.j past c.loop-j.invariant
