use Rattle.std.proofs.lemmas.Result.{on_ok_weaker}
use Rattle.map_picture.proofs.WarnedLemmas.{adds_game}
use Rattle.map_picture.proofs.warned.add_game.Goals as goal

pub returns : goal.returns
returns g c =
    on_ok_weaker c.add_all-5.result
    (adds_game c.args.asked c.args.checks.now _ _ _ _ _ _ c.in_ok-add_all.ensures c.in_ok-add_all-2.ensures c.in_ok-add_all-3.ensures c.in_ok-add_all-4.ensures)
    c.add_all-5.ensures
