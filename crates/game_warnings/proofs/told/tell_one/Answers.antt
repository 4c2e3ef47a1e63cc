use Rattle.game_warnings.specs.Holds.{HoldsOf}
use Rattle.game_warnings.proofs.ToldLemmas.{told_only, told_nothing}
use Rattle.game_warnings.proofs.told.tell_one.Goals as goal

pub returns-in_default-clause-told : goal.returns-in_default-clause-told
returns-in_default-clause-told g c = rw c.new-told.ensures (told_nothing (HoldsOf c.args.level.now c.args.code) c.args.most (rw c.in_default.is at c.requires.none))

pub returns-clause-told : goal.returns-clause-told
returns-clause-told g c =
    rw (c.in_ok-add.ensures, c.new-told.ensures)
    (told_only (HoldsOf c.args.level.now c.args.code) c.args.most c.in-Some.warning (rw c.in-Some.is at c.requires.some) (rw c.in-Some.is at c.requires.alone))
