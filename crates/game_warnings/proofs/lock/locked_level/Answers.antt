use Rattle.game_warnings.specs.Holds.{HoldsOf}
use Rattle.game_warnings.specs.declared.code.GameCode.TheVariants.{W19}
use Rattle.game_warnings.proofs.ToldLemmas.{told_none, told_all}
use Rattle.game_warnings.proofs.RankLemmas.{locked_within}
use Rattle.game_warnings.proofs.lock.locked_level.Goals as goal

pub tell_exit-requires : goal.tell_exit-requires
tell_exit-requires g c = rw c.new-told.ensures (told_none (HoldsOf c.args.level.now W19) c.args.most)

pub returns-clause-told : goal.returns-clause-told
returns-clause-told g c =
    told_all (HoldsOf c.args.level.now W19) c.tell_keys.new.told 4 c.in_ok-tell_keys.ensures.told (locked_within c.args.level.now)
