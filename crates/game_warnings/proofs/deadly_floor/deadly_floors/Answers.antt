use Rattle.std.proofs.Common.{arith, rules}
use Rattle.game_warnings.specs.Holds.{HoldsOf}
use Rattle.game_warnings.specs.declared.code.GameCode.TheVariants.{W18}
use Rattle.game_warnings.proofs.ToldLemmas.{told_none, told_all}
use Rattle.game_warnings.proofs.RankLemmas.{deadly_alone, deadly_within}
use Rattle.game_warnings.proofs.deadly_floor.deadly_floors.Goals as goal

pub loop-s-init : goal.loop-s-init
loop-s-init g c = rw c.new-told.ensures (record { below = told_none (HoldsOf c.args.level.now W18) c.args.most; most = search rules })

pub tell_where-requires-clause-alone : goal.tell_where-requires-clause-alone
tell_where-requires-clause-alone g c = deadly_alone c.args.level.now c.loop-s.s

pub returns-clause-told : goal.returns-clause-told
returns-clause-told g c =
    told_all (HoldsOf c.args.level.now W18) c.loop-s.told c.loop-s.s c.loop-s.invariant.below (λ v h.
    let within = deadly_within c.args.level.now v h in
    let all = rw (← c.sectors.ensures.is, ← c.len-s-end.ensures) at within in
    omega (arith, all, c.loop-s-test.false))
