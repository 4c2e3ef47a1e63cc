use Rattle.std.proofs.Common.{◌≡◌, ◌+◌, ◌*◌, ◌∙◌, arith, rules}
use Rattle.game_warnings.specs.Holds.{HoldsOf}
use Rattle.game_warnings.specs.declared.code.GameCode.TheVariants.{W21}
use Rattle.game_warnings.proofs.ToldLemmas.{told_none, told_all}
use Rattle.game_warnings.proofs.RankLemmas.{thing_within}
use Rattle.game_warnings.proofs.thing.tell_things.Goals as goal

pub loop-k-init : goal.loop-k-init
loop-k-init g c = rw c.new-told.ensures (record { below = told_none (HoldsOf c.args.level.now W21) c.args.most; most = search rules })

pub loop-k-preserved : goal.loop-k-preserved
loop-k-preserved g c =
    let next : (c.loop-k.k + 1) * 4 ≡ c.loop-k.k * 4 + 4 = omega arith in
    record {
      below = rw next c.in_ok-tell_thing.ensures.told;
      most = c.in_ok-tell_thing.ensures.most ∙ c.loop-k.invariant.most;
    }

pub returns-clause-told : goal.returns-clause-told
returns-clause-told g c =
    told_all (HoldsOf c.args.level.now W21) c.loop-k.told (c.loop-k.k * 4) c.loop-k.invariant.below (λ v h.
    let within = thing_within c.args.level.now v h in
    let all = rw (← c.things.ensures.is, ← c.len-k-end.ensures) at within in
    omega (arith, all, c.loop-k-test.false))
