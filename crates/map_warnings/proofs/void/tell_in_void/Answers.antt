use Rattle.std.proofs.Common.{arith, rules}
use Rattle.map_warnings.specs.Holds.{HoldsOf}
use Rattle.level_codes.specs.declared.code.WarningCode.TheVariants.{W3}
use Rattle.map_warnings.proofs.ToldLemmas.{told_none, told_all}
use Rattle.map_warnings.proofs.RankLemmas.{void_alone, void_within}
use Rattle.map_warnings.proofs.void.tell_in_void.Goals as goal

pub loop-k-init : goal.loop-k-init
loop-k-init g c = rw c.new-told.ensures (record { below = told_none (HoldsOf c.args.level.now W3) c.args.most; most = search rules })

pub tell_where-requires-clause-alone : goal.tell_where-requires-clause-alone
tell_where-requires-clause-alone g c = void_alone c.args.level.now c.loop-k.k

pub returns-clause-told : goal.returns-clause-told
returns-clause-told g c =
    told_all (HoldsOf c.args.level.now W3) c.loop-k.told c.loop-k.k c.loop-k.invariant.below (λ v h.
    let within = void_within c.args.level.now v h in
    let all = rw (← c.things.ensures.is, ← c.len-k-end.ensures) at within in
    omega (arith, all, c.loop-k-test.false))
