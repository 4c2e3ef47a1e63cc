use Rattle.map_picture.proofs.WarnedLemmas.{marked_with}
use Rattle.map_picture.proofs.warned.marked_of.Goals as goal

pub returns : goal.returns
returns g c =
    marked_with c.args.asked _ c.args.level.now _ _ _ _ _ _ _ c.in_ok-checks.ensures c.new-marked.ensures.items c.in_ok-add_all.ensures
    c.in_ok-add_all-2.ensures c.in_ok-add_all-3.ensures c.in_ok-add_all-4.ensures c.in_ok-add_all-5.ensures c.in_ok-add_game.ensures
