use Rattle.std.proofs.Common.{◌≡◌, ◌+◌, ◌<◌, ◌≤◌, ◌∙◌, ap, arith}
use Rattle.game_warnings.specs.Patches.{listed_count}
use Rattle.game_warnings.proofs.PatchLemmas.{total_all, total_more}
use Rattle.game_warnings.proofs.patches.patch_total.Goals as goal

pub overflow_add-total : goal.overflow_add-total
overflow_add-total c = omega (arith, c.patches_of-total.ensures.few, c.loop-k.invariant.few, c.listed_count-k-end.ensures.inside, c.loop-k-test.true, c.requires)

pub loop-k-preserved : goal.loop-k-preserved
loop-k-preserved c =
    let below : c.loop-k.k < listed_count 4 c.args.lump.now = rw (← c.listed_count-k-end.ensures.count) c.loop-k-test.true in
    record {
      sum = total_more c.args.lump.now c.loop-k.k c.loop-k.total c.patches_of-total.result below c.loop-k.invariant.sum c.patches_of-total.ensures.count;
      few = omega (arith, c.patches_of-total.ensures.few, c.loop-k.invariant.few);
    }

pub returns-clause-total : goal.returns-clause-total
returns-clause-total c =
    let past : listed_count 4 c.args.lump.now ≤ c.loop-k.k = rw (← c.listed_count-k-end.ensures.count) c.loop-k-test.false in
    total_all c.args.lump.now c.loop-k.k c.loop-k.total past c.loop-k.invariant.sum

pub returns-clause-few : goal.returns-clause-few
returns-clause-few c = omega (arith, c.loop-k.invariant.few, c.loop-k.auto.k-end, c.listed_count-k-end.ensures.inside, c.requires)
