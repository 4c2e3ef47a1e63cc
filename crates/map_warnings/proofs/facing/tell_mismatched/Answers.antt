use Rattle.std.proofs.Common.{arith, refl}
use Rattle.map_warnings.specs.Holds.{HoldsOf}
use Rattle.level_codes.specs.declared.code.WarningCode.TheVariants.{W5}
use Rattle.map_warnings.proofs.ToldLemmas.{told_none, told_all}
use Rattle.map_warnings.proofs.RankLemmas.{mismatched_within}
use Rattle.map_warnings.proofs.facing.tell_mismatched.Goals as goal

pub loop-t-init : goal.loop-t-init
loop-t-init g c = rw c.new-told.ensures (record { below = told_none (HoldsOf c.args.level.now W5) c.args.most; most = refl })

pub returns-clause-told : goal.returns-clause-told
returns-clause-told g c =
    told_all (HoldsOf c.args.level.now W5) c.loop-t.told c.loop-t.t c.loop-t.invariant.below (λ v h.
    let within = mismatched_within c.args.level.now v h in
    let all = rw (← c.ssectors.ensures.is, ← c.len-t-end.ensures) at within in
    omega (arith, all, c.loop-t-test.false))
