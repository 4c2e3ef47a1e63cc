use Rattle.std.proofs.Common.{◌≡◌, ◌+◌, ◌*◌, ◌∙◌, arith, rules}
use Rattle.game_warnings.specs.Holds.{HoldsOf}
use Rattle.game_warnings.specs.declared.code.GameCode.TheVariants.{W17}
use Rattle.game_warnings.proofs.ToldLemmas.{told_none, told_all}
use Rattle.game_warnings.proofs.RankLemmas.{effect_within}
use Rattle.game_warnings.proofs.effect.tell_effects.Goals as goal

pub loop-i-init : goal.loop-i-init
loop-i-init g c = rw c.new-told.ensures (record { below = told_none (HoldsOf c.args.level.now W17) c.args.most; most = search rules })

pub loop-i-preserved : goal.loop-i-preserved
loop-i-preserved g c =
    let next : (c.loop-i.i + 1) * 6 ≡ c.loop-i.i * 6 + 6 = omega arith in
    record {
      below = rw next c.in_ok-tell_linedef.ensures.told;
      most = c.in_ok-tell_linedef.ensures.most ∙ c.loop-i.invariant.most;
    }

pub returns-clause-told : goal.returns-clause-told
returns-clause-told g c =
    told_all (HoldsOf c.args.level.now W17) c.loop-i.told (c.loop-i.i * 6) c.loop-i.invariant.below (λ v h.
    let within = effect_within c.args.level.now v h in
    let all = rw (← c.linedefs.ensures.is, ← c.len-i-end.ensures) at within in
    omega (arith, all, c.loop-i-test.false))
