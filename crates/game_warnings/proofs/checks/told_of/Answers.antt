use Rattle.game_warnings.specs.Holds.{HoldsOf}
use Rattle.game_warnings.specs.declared.code.GameCode.TheVariants.{W25}
use Rattle.game_warnings.proofs.RankLemmas.{none_misplaced}
use Rattle.game_warnings.proofs.ToldLemmas.{told_nothing}
use Rattle.game_warnings.proofs.checks.told_of.Goals as goal

pub returns-in-W14-clause-told : goal.returns-in-W14-clause-told
returns-in-W14-clause-told g c = rw c.in-W14.is c.unknown_specials.ensures.told

pub returns-in-W15-clause-told : goal.returns-in-W15-clause-told
returns-in-W15-clause-told g c = rw c.in-W15.is c.zero_tags.ensures.told

pub returns-in-W16-clause-told : goal.returns-in-W16-clause-told
returns-in-W16-clause-told g c = rw c.in-W16.is c.crossings.ensures.told

pub returns-in-W17-clause-told : goal.returns-in-W17-clause-told
returns-in-W17-clause-told g c = rw c.in-W17.is c.effects.ensures.told

pub returns-in-W18-clause-told : goal.returns-in-W18-clause-told
returns-in-W18-clause-told g c = rw c.in-W18.is c.deadly_floors.ensures.told

pub returns-in-W19-clause-told : goal.returns-in-W19-clause-told
returns-in-W19-clause-told g c = rw c.in-W19.is c.locked_level.ensures.told

pub returns-in-W21-clause-told : goal.returns-in-W21-clause-told
returns-in-W21-clause-told g c = rw c.in-W21.is c.things.ensures.told

pub returns-in-W22-clause-told : goal.returns-in-W22-clause-told
returns-in-W22-clause-told g c = rw c.in-W22.is c.limits.ensures.told

pub returns-in-W25-clause-told : goal.returns-in-W25-clause-told
returns-in-W25-clause-told g c =
    rw (c.in-W25.is, c.new.ensures) (told_nothing (HoldsOf c.args.level.now W25) c.args.most (none_misplaced c.args.level.now))
