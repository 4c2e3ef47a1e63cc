use Rattle.std.proofs.Common.{Some}
use Rattle.game_warnings.specs.Holds.{HoldsIn}
use Rattle.game_warnings.specs.declared.code.GameCode.TheVariants.{W22}
use Rattle.game_warnings.proofs.AloneLemmas.{limits_below}
use Rattle.game_warnings.proofs.RankLemmas.{limit_among_within}
use Rattle.game_warnings.proofs.ToldLemmas.{told_all}
use Rattle.game_warnings.proofs.limit.limits_among.Goals as goal

pub tell_patch-requires : goal.tell_patch-requires
tell_patch-requires g c = limits_below c.args.graphics.now c.args.level.now c.in_ok-told.told c.in_ok-told.ensures.told

pub returns-clause-told : goal.returns-clause-told
returns-clause-told g c =
    told_all (HoldsIn (Some c.args.graphics.now) c.args.level.now W22) c.tell_patch.new.told 5 c.in_ok-tell_patch.ensures.told
    (limit_among_within c.args.graphics.now c.args.level.now)
