use Rattle.std.proofs.Common.{◌≡◌, ◌<◌, ◌∙◌, sym, arith}
use Rattle.game_warnings.specs.Patches.{listed_count}
use Rattle.game_warnings.proofs.PatchLemmas.{there_all, there_none, there_pushed}
use Rattle.game_warnings.proofs.patches.patches_there.Goals as goal

pub loop-m-init : goal.loop-m-init
loop-m-init g c = rw c.in_ok-there.ensures.items (there_none c.args.set.now c.args.pnames.now)

pub returns : goal.returns
returns g c =
    let all : c.loop-m.m ≡ listed_count 8 c.args.pnames.now = omega (arith, c.loop-m-test.false, c.loop-m.auto.m-end, c.listed_count-count.ensures.count) in
    there_all c.args.set.now c.args.pnames.now c.loop-m.m c.loop-m.there.items all c.loop-m.invariant

pub loop-m-preserved : goal.loop-m-preserved
loop-m-preserved g c =
    let below : c.loop-m.m < listed_count 8 c.args.pnames.now = rw (← c.listed_count-count.ensures.count) c.loop-m-test.true in
    rw c.in_ok-push.ensures.items
    (there_pushed c.args.set.now c.args.pnames.now c.loop-m.m c.loop-m.there.items c.is_patch_found.result below c.loop-m.invariant c.is_patch_found.ensures)
