use Rattle.game_warnings.specs.Holds.{HoldsOf}
use Rattle.game_warnings.specs.declared.code.GameCode.TheVariants.{W22}
use Rattle.game_warnings.proofs.ToldLemmas.{told_none, told_all}
use Rattle.game_warnings.proofs.RankLemmas.{limit_within}
use Rattle.game_warnings.proofs.limit.tell_limits.Goals as goal

pub tell_scrolling-requires : goal.tell_scrolling-requires
tell_scrolling-requires g c = rw c.new-told.ensures (told_none (HoldsOf c.args.level.now W22) c.args.most)

pub returns-clause-told : goal.returns-clause-told
returns-clause-told g c =
    told_all (HoldsOf c.args.level.now W22) c.tell_rest.new.told 4 c.in_ok-tell_rest.ensures.told (limit_within c.args.level.now)
