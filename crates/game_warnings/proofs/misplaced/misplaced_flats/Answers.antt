use Rattle.std.proofs.Common.{◌≡◌, ◌+◌, ◌*◌, ◌∙◌, Some, arith, rules}
use Rattle.game_warnings.specs.Holds.{HoldsIn}
use Rattle.game_warnings.specs.declared.code.GameCode.TheVariants.{W25}
use Rattle.game_warnings.proofs.ToldLemmas.{told_none, told_all}
use Rattle.game_warnings.proofs.RankLemmas.{misplaced_within}
use Rattle.game_warnings.proofs.misplaced.misplaced_flats.Goals as goal

pub loop-s-init : goal.loop-s-init
loop-s-init g c =
    rw c.new-told.ensures
    (record { below = told_none (HoldsIn (Some c.args.graphics.now) c.args.level.now W25) c.args.most; most = search rules })

pub loop-s-preserved : goal.loop-s-preserved
loop-s-preserved g c =
    let next : (c.loop-s.s + 1) * 2 ≡ c.loop-s.s * 2 + 2 = omega arith in
    record {
      below = rw next c.in_ok-tell_sector.ensures.told;
      most = c.in_ok-tell_sector.ensures.most ∙ c.loop-s.invariant.most;
    }

pub returns-clause-told : goal.returns-clause-told
returns-clause-told g c =
    told_all (HoldsIn (Some c.args.graphics.now) c.args.level.now W25) c.loop-s.told (c.loop-s.s * 2) c.loop-s.invariant.below (λ v h.
    let within = misplaced_within c.args.graphics.now c.args.level.now v h in
    let all = rw (← c.sectors.ensures.is, ← c.len-s-end.ensures) at within in
    omega (arith, all, c.loop-s-test.false))
