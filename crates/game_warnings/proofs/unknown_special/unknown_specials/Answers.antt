use Rattle.std.proofs.Common.{arith, rules}
use Rattle.game_warnings.specs.Holds.{HoldsOf}
use Rattle.game_warnings.specs.declared.code.GameCode.TheVariants.{W14}
use Rattle.game_warnings.proofs.ToldLemmas.{told_none, told_all}
use Rattle.game_warnings.proofs.RankLemmas.{unknown_alone, unknown_within}
use Rattle.game_warnings.proofs.unknown_special.unknown_specials.Goals as goal

pub loop-i-init : goal.loop-i-init
loop-i-init g c = rw c.new-told.ensures (record { below = told_none (HoldsOf c.args.level.now W14) c.args.most; most = search rules })

pub tell_where-requires-clause-alone : goal.tell_where-requires-clause-alone
tell_where-requires-clause-alone g c = unknown_alone c.args.level.now c.loop-i.i

pub returns-clause-told : goal.returns-clause-told
returns-clause-told g c =
    told_all (HoldsOf c.args.level.now W14) c.loop-i.told c.loop-i.i c.loop-i.invariant.below (λ v h.
    let within = unknown_within c.args.level.now v h in
    let all = rw (← c.linedefs.ensures.is, ← c.len-i-end.ensures) at within in
    omega (arith, all, c.loop-i-test.false))
