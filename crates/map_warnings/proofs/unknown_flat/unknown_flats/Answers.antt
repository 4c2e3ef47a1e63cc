use Rattle.std.proofs.Common.{◌≡◌, ◌+◌, ◌*◌, ◌∙◌, Some, arith, rules}
use Rattle.map_warnings.specs.Holds.{HoldsIn}
use Rattle.level_codes.specs.declared.code.WarningCode.TheVariants.{W10}
use Rattle.map_warnings.proofs.ToldLemmas.{told_none, told_all}
use Rattle.map_warnings.proofs.RankLemmas.{flat_within}
use Rattle.map_warnings.proofs.unknown_flat.unknown_flats.Goals as goal

pub loop-i-init : goal.loop-i-init
loop-i-init g c =
    rw c.new-told.ensures
    (record { below = told_none (HoldsIn (Some c.args.resources.now) c.args.level.now W10) c.args.most; most = search rules })

pub loop-i-preserved : goal.loop-i-preserved
loop-i-preserved g c =
    let next : (c.loop-i.i + 1) * 2 ≡ c.loop-i.i * 2 + 2 = omega arith in
    record {
      below = rw next c.in_ok-tell_sector.ensures.told;
      most = c.in_ok-tell_sector.ensures.most ∙ c.loop-i.invariant.most;
    }

pub returns-clause-told : goal.returns-clause-told
returns-clause-told g c =
    told_all (HoldsIn (Some c.args.resources.now) c.args.level.now W10) c.loop-i.told (c.loop-i.i * 2) c.loop-i.invariant.below (λ v h.
    let within = flat_within c.args.resources.now c.args.level.now v h in
    let all = rw (← c.sectors.ensures.is, ← c.len-i-end.ensures) at within in
    omega (arith, all, c.loop-i-test.false))
