use Rattle.std.proofs.Common.{refl, arith}
use Rattle.map_warnings.specs.Holds.{HoldsOf}
use Rattle.level_codes.specs.declared.code.WarningCode.TheVariants.{W6}
use Rattle.map_warnings.proofs.ToldLemmas.{told_none, told_all}
use Rattle.map_warnings.proofs.RankLemmas.{twin_within}
use Rattle.map_warnings.proofs.TwinLemmas.{no_firsts}
use Rattle.map_warnings.proofs.twins.tell_twins.Goals as goal

pub loop-i-init : goal.loop-i-init
loop-i-init g c = record {
  below = rw c.new-told.ensures (told_none (HoldsOf c.args.level.now W6) c.args.most);
  most = rw c.new-told.ensures refl;
  kept = no_firsts c.args.level.now c.new-firsts.result c.new-firsts.ensures.empty;
}

pub returns-clause-told : goal.returns-clause-told
returns-clause-told g c =
    told_all (HoldsOf c.args.level.now W6) c.loop-i.told c.loop-i.i c.loop-i.invariant.below (λ v h.
    let within = twin_within c.args.level.now v h in
    let all = rw (← c.linedefs.ensures.is, ← c.len-i-end.ensures) at within in
    omega (arith, all, c.loop-i-test.false))
