use Rattle.std.proofs.Common.{Some, rules}
use Rattle.std.specs.Prelude.{IsTrue}
use Rattle.game_warnings.specs.Holds.{HoldsIn}
use Rattle.game_warnings.proofs.ToldLemmas.{told_more, told_without}
use Rattle.game_warnings.proofs.told.tell_among.Goals as goal

pub returns-in_ok-add-clause-told : goal.returns-in_ok-add-clause-told
returns-in_ok-add-clause-told g c =
    let holds : IsTrue c.args.holds = search rules in
    rw c.in_ok-add.ensures
    (told_more (HoldsIn (Some c.args.graphics.now) c.args.level.now c.args.code) c.args.told.now c.args.warning c.requires.below
    (c.requires.tells.0 holds) c.requires.alone)

pub returns-else-holds-clause-told : goal.returns-else-holds-clause-told
returns-else-holds-clause-told g c =
    let other : ¬ HoldsIn (Some c.args.graphics.now) c.args.level.now c.args.code c.args.warning = search rules in
    told_without (HoldsIn (Some c.args.graphics.now) c.args.level.now c.args.code) c.args.told.now c.args.warning c.requires.below
    other c.requires.alone
